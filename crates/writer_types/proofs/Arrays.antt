-- A length that is not 0: what is found of the base and of the length goes into the instruction.
use Prim.Native.Nat.{ℕ, zero, suc}
use mathlib.Core.Path.{◌≡◌, refl, ap}
use Rattle.definition.specs.Choice.{or_else}
use Rattle.definition.specs.Literals.{u32}
use Rattle.definition.specs.Instructions.{type_array}
use Rattle.definition.specs.Shapes.{entry}
use Rattle.definition.specs.State.{State, Got, id_of, declare_alone}
use Rattle.definition.specs.Finding.{literal}
use Rattle.definition.specs.Rules.{declare_array}
use Rattle.finding.proofs.Entries.{entry_found}
use Rattle.writer_types.specs.Arrays.{elements_declared}

pub sized : (base n id : ℕ) (s : State) → (n ≡ 0 → ⊥)
    → elements_declared base n id s ≡ declare_alone (type_array id (or_else 0 (id_of s (entry base))) (literal (u32 n) s).id) (literal (u32 n) s).state
sized base zero id s nz = absurd (nz refl)
sized base (suc n) id s nz = ap (λ (g : Got). declare_array (suc n) id g) (entry_found base s)
