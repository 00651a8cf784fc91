-- The closure puts the instruction's words, the ids taken as words.
use Rattle.std.proofs.Common.{rules}
use mathlib.Core.Path.{refl}
use Rattle.definition.specs.Instructions.{words, type_void}
use Rattle.spirv.specs.Ids.{low}
use Rattle.writer.specs.Regions.{declarations}
use Rattle.writer.proofs.Spelt.{void, room_for}
use Rattle.writer.proofs.Writer.type_void.Goals as goal

pub declare-requires-clause-room : goal.declare-requires-clause-room
declare-requires-clause-room c = let a = c.args in
    (words (type_void (low a.id)), (λ s n t k. search rules), room_for declarations (void a.id refl) c.requires)

pub returns : goal.returns
returns c = let a = c.args in
    c.declare.ensures (type_void a.id) (2) (words (type_void (low a.id))) (λ s n t k. search rules) (void a.id refl) c.requires
