-- A name's length is a byte; and whether a name is written may be asked before it is looked up.
use Prim.Native.Nat.{ℕ, ◌+◌, ◌<◌}
use mathlib.Core.Path.{◌≡◌, refl}
use mathlib.Core.Bool.{Bool, true, false, ◌&&◌}
use mathlib.Core.List.{List, []}
use Rattle.std.specs.Prelude.{Some, None}
use native.Mathlib.Omega.{arith}
use lib.Dec.{eqb}
use lib.ListN.{length, get_or, take, drop, length-take}
use Rattle.definition.specs.Bytes.{Name, u8_at, name_at}
use Rattle.definition.specs.Choice.{pick, or_else}
use Rattle.definition.specs.Instructions.{Instruction}
use Rattle.definition.specs.State.{State}
use Rattle.definition.specs.Tests.{present}
use Rattle.definition.specs.Rules.{label_if}

pub name_short : (b : List ℕ) (i : ℕ) → ((k : ℕ) → get_or b k 0 < 256) → length (or_else [] (name_at b i)) < 256
unfolding name_at
name_short b i h = go (eqb (u8_at b i) 255)
  where
    go : (c : Bool) → length (or_else [] (pick c None (Some (take (u8_at b i) (drop (i + 1) b))))) < 256
    go true = omega arith
    go false = omega (arith, h i, length-take (u8_at b i) (drop (i + 1) b))

-- written or not, as the definition's label_if has it
pub same_name : (d : Bool) (nm : Name) (write : List ℕ → Instruction) (s : State) → label_if d write nm s ≡ label_if (d && present nm) write (Some (or_else [] nm)) s
same_name false nm write s = refl
same_name true None write s = refl
same_name true (Some bs) write s = refl
