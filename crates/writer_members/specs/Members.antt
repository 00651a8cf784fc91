-- A struct's member, by its fields and by what was read for it.
use Rattle.std.specs.Prelude.{ℕ, ◌+◌, Bool, List, [], ◌∷◌, length}
use Rattle.std.specs.Prelude.{Option, Some}
use Rattle.definition.specs.Choice.{pick}
use Rattle.definition.specs.Numbers.{DecorationOffset}
use Rattle.definition.specs.Instructions.{member_decorate, member_name}
use Rattle.definition.specs.State.{State, annotate}
use Rattle.definition.specs.Rules.{stride_member, label_if}
use Rattle.writer.specs.Cost.{Cost, naming, annotating, ◌⊕◌}

-- its name's words
abbrev pub name_cost : Bool → List ℕ → ℕ
name_cost named bs = pick named (length bs + 4) 0

-- Offset, ColMajor and MatrixStride, and the name
abbrev pub member_cost : Bool → List ℕ → Cost
member_cost named bs = annotating 14 ⊕ naming (name_cost named bs)

-- the definition's decorate_member, its name and its stride told
abbrev pub member_decorated : ℕ → ℕ → ℕ → Bool → List ℕ → Option ℕ → State → State
member_decorated id i offset named bs stride s =
    stride_member stride id i (label_if named (member_name id i) (Some bs) (annotate (member_decorate id i DecorationOffset (offset ∷ [])) s))
