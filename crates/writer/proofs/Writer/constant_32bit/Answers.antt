-- The closure puts the instruction's words, the ids taken as words.
use Rattle.std.proofs.Common.{rules}
use mathlib.Core.Path.{refl}
use mathlib.Core.List.{[], ◌∷◌}
use native.Mathlib.Omega.{arith}
use Rattle.definition.specs.Instructions.{words, constant_op}
use Rattle.spirv.specs.Ids.{low}
use Rattle.writer.specs.Regions.{declarations}
use Rattle.writer.proofs.Spelt.{one_word, room_for}
use Rattle.writer.proofs.Writer.constant_32bit.Goals as goal

pub declare-requires-clause-room : goal.declare-requires-clause-room
declare-requires-clause-room c = let a = c.args in
    (words (constant_op (low a.ty) (low a.id) (a.value ∷ [])), (λ s n t k. search rules), room_for declarations (one_word a.ty a.id a.value refl refl (omega (arith, c.ranges))) c.requires)

pub returns : goal.returns
returns c = let a = c.args in
    c.declare.ensures (constant_op a.ty a.id (a.value ∷ [])) (4) (words (constant_op (low a.ty) (low a.id) (a.value ∷ []))) (λ s n t k. search rules) (one_word a.ty a.id a.value refl refl (omega (arith, c.ranges))) c.requires
