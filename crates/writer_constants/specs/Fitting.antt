-- What the tests of a constant promise, of whatever state the tables hold.
use Rattle.std.specs.Prelude.{ℕ, ◌≡◌, Bool, List, eqb}
use Rattle.definition.specs.Choice.{every}
use Rattle.definition.specs.Sheet.{TypeEntry, Expression}
use Rattle.definition.specs.State.{State}
use Rattle.definition.specs.Rules.{value_at}
use Rattle.definition.specs.Unfit.{PartPlaces, parts_fit, constant_fits}
use Rattle.writer.specs.declared.Writer.{Writer}
use Rattle.writer.specs.Held.{HeldByTables}

-- constants are of the type with an id
abbrev pub all_of : State → ℕ → List ℕ → Bool
all_of s id cs = every (λ (c : ℕ). eqb (value_at s c).type id) cs

-- the same, as the program answers it
abbrev pub TestsEachPart : ℕ → List ℕ → Writer → Bool → Type 0
TestsEachPart id cs w r = (s : State) → HeldByTables w s → r ≡ all_of s id cs

-- constants fit the places of a composite's parts
abbrev pub TestsParts : PartPlaces → List ℕ → Writer → Bool → Type 0
TestsParts ps cs w r = (s : State) → HeldByTables w s → r ≡ parts_fit s ps cs

-- test 13 of a constant
abbrev pub TestsConstant : List TypeEntry → Expression → Writer → Bool → Type 0
TestsConstant ts e w r = (s : State) → HeldByTables w s → r ≡ constant_fits ts s e
