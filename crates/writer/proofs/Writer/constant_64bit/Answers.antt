-- The closure puts the instruction's words, the ids taken as words.
use Rattle.std.proofs.Common.{rules}
use mathlib.Core.Path.{refl}
use mathlib.Core.List.{[], ◌∷◌}
use native.Mathlib.Omega.{arith}
use Rattle.definition.specs.Instructions.{words, constant_op}
use Rattle.spirv.specs.Ids.{low}
use Rattle.writer.specs.Regions.{declarations}
use Rattle.writer.proofs.Spelt.{two_words_lem, room_for}
use Rattle.writer.proofs.Writer.constant_64bit.Goals as goal

pub declare-requires-clause-room : goal.declare-requires-clause-room
declare-requires-clause-room c = let a = c.args in
    (words (constant_op (low a.ty) (low a.id) (a.low ∷ a.high ∷ [])), (λ s n t k. search rules), room_for declarations (two_words_lem a.ty a.id a.low a.high refl refl (omega (arith, c.ranges)) (omega (arith, c.ranges))) c.requires)

pub returns : goal.returns
returns c = let a = c.args in
    c.declare.ensures (constant_op a.ty a.id (a.low ∷ a.high ∷ [])) (5) (words (constant_op (low a.ty) (low a.id) (a.low ∷ a.high ∷ []))) (λ s n t k. search rules) (two_words_lem a.ty a.id a.low a.high refl refl (omega (arith, c.ranges)) (omega (arith, c.ranges))) c.requires
