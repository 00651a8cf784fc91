-- The closure puts the instruction's words, the ids taken as words.
use Rattle.std.proofs.Common.{rules}
use mathlib.Core.Path.{refl}
use Rattle.definition.specs.Instructions.{words, constant_null}
use Rattle.spirv.specs.Ids.{low}
use Rattle.writer.specs.Regions.{declarations}
use Rattle.writer.proofs.Spelt.{null, room_for}
use Rattle.writer.proofs.Writer.constant_null.Goals as goal

pub declare-requires-clause-room : goal.declare-requires-clause-room
declare-requires-clause-room c = let a = c.args in
    (words (constant_null (low a.ty) (low a.id)), (λ s n t k. search rules), room_for declarations (null a.ty a.id refl refl) c.requires)

pub returns : goal.returns
returns c = let a = c.args in
    c.declare.ensures (constant_null a.ty a.id) (3) (words (constant_null (low a.ty) (low a.id))) (λ s n t k. search rules) (null a.ty a.id refl refl) c.requires
