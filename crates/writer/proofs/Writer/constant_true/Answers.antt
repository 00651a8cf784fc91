-- The closure puts the instruction's words, the ids taken as words.
use Rattle.std.proofs.Common.{rules}
use mathlib.Core.Path.{refl}
use Rattle.definition.specs.Instructions.{words, constant_true}
use Rattle.spirv.specs.Ids.{low}
use Rattle.writer.specs.Regions.{declarations}
use Rattle.writer.proofs.Spelt.{is_true, room_for}
use Rattle.writer.proofs.Writer.constant_true.Goals as goal

pub declare-requires-clause-room : goal.declare-requires-clause-room
declare-requires-clause-room c = let a = c.args in
    (words (constant_true (low a.ty) (low a.id)), (λ s n t k. search rules), room_for declarations (is_true a.ty a.id refl refl) c.requires)

pub returns : goal.returns
returns c = let a = c.args in
    c.declare.ensures (constant_true a.ty a.id) (3) (words (constant_true (low a.ty) (low a.id))) (λ s n t k. search rules) (is_true a.ty a.id refl refl) c.requires
