-- The words of a fit sheet's module have 32 bits: demand 3 has the reader read them, and it takes no others.
use Prim.Native.Nat.{ℕ}
use mathlib.Core.Path.{◌≡◌, refl}
use mathlib.Core.Bool.{Bool, true, false, ◌&&◌}
use mathlib.Core.List.{List}
use Rattle.std.specs.Prelude.{Option, Some, None}
use native.Mathlib.Omega.{arith}
use lib.Dec.{eqb, leb}
use lib.ListN.{length, drop, get_or}
use Rattle.definition.specs.Choice.{pick, every}
use Rattle.definition.specs.Numbers.{MagicNumber}
use Rattle.definition.specs.Reader.{Module, module_of, is_word, read_all, read_module}
use Rattle.definition.specs.State.{module_words}
use Rattle.definition.specs.Tests.{fit}
use Rattle.definition.specs.Operations.{Progress, judged}
use Rattle.definition.specs.WellDeclared.{IsBytes}
use Rattle.definition.proofs.Demand.{demand_3}

-- what is taken only where three tests hold shows the second
second : (a b c : Bool) (x : Option Module) (m : Module) → pick (a && (b && c)) x None ≡ Some m → b ≡ true
second a true c x m e = refl
second true false c x m e = absurd (let z : ◌≡◌ {A = ℕ} 0 1 = cc in omega arith)
second false false c x m e = absurd (let z : ◌≡◌ {A = ℕ} 0 1 = cc in omega arith)

-- a module that can be read is made of words
pub read_words : (ws : List ℕ) (m : Module) → read_module ws ≡ Some m → every is_word ws ≡ true
unfolding read_module
read_words ws m e =
    second (leb 5 (length ws)) (every is_word ws) (eqb (get_or ws 0 0) MagicNumber && eqb (get_or ws 4 0) 0)
    (module_of (get_or ws 1 0) (get_or ws 2 0) (get_or ws 3 0) (read_all (length ws) (drop 5 ws))) m e

-- and a fit sheet's module can be read
pub fit_words : (s : List ℕ) → IsBytes s → (p : Progress) → judged s ≡ fit p → every is_word (module_words p.state) ≡ true
fit_words s bytes p e = let d = demand_3 s bytes p e in read_words (module_words p.state) d.found d.reads
