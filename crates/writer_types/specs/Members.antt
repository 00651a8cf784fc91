-- The members of a struct in two passes: all are decorated and named, then their types' ids are put. Finding an entry changes
-- nothing, so this is the definition's one pass (proofs/Passes.antt).
use Rattle.std.specs.Prelude.{ℕ, suc, ◌+◌, Bool, List, [], ◌∷◌, map, length}
use Rattle.definition.specs.Choice.{or_else}
use Rattle.definition.specs.Instructions.{type_struct}
use Rattle.definition.specs.Sheet.{Member, TypeEntry}
use Rattle.definition.specs.Shapes.{entry}
use Rattle.definition.specs.State.{State, declare_alone, id_of}
use Rattle.definition.specs.Rules.{decorate_member}
use Rattle.writer.specs.declared.Writer.{Writer}
use Rattle.writer.specs.Cost.{declaring}
use Rattle.writer.specs.Steps.{Kept}

-- ---- the first pass

-- the members are decorated and named, the first of them as member i
unfoldable pub decorated : Bool → List TypeEntry → ℕ → ℕ → List Member → State → State
decorated debug ts id i [] s = s
decorated debug ts id i (m ∷ ms) s = decorated debug ts id (suc i) ms (decorate_member debug ts id i m s)

-- ---- the second pass: OpTypeStruct

-- the ids of the members' types; 0 where there is no such entry
abbrev pub ids_in : State → List Member → List ℕ
ids_in s ms = map (λ m. or_else 0 (id_of s (entry m.type))) ms

-- the instruction of these members
abbrev pub struct_put : ℕ → List Member → State → State
struct_put id ms s = declare_alone (type_struct id (ids_in s ms)) s

-- the instruction of these members is put
abbrev pub StructPut : ℕ → List Member → Writer → Writer → Type 0
StructPut id ms w v = Kept (declaring (length ms + 2)) (struct_put id ms) w v
