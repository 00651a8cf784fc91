-- The beginning of an instruction.
use Rattle.std.specs.Prelude.{ℕ, ◌+◌, ◌*◌, List, [], ◌∷◌}
use Rattle.definition.specs.Numbers.{OpTypeStruct}

-- the first word and the first operands of an instruction of count words
abbrev pub head : ℕ → ℕ → List ℕ → List ℕ
head count op operands = (65536 * count + op) ∷ operands

-- what stands before the ids of n members: with them it is the words of type_struct
abbrev pub struct_head : ℕ → ℕ → List ℕ
struct_head id n = head (n + 2) OpTypeStruct (id ∷ [])
