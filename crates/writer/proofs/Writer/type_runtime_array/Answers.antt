-- The closure puts the instruction's words, the ids taken as words.
use Rattle.std.proofs.Common.{rules}
use mathlib.Core.Path.{refl}
use Rattle.definition.specs.Instructions.{words, type_runtime_array}
use Rattle.spirv.specs.Ids.{low}
use Rattle.writer.specs.Regions.{declarations}
use Rattle.writer.proofs.Spelt.{runtime_array, room_for}
use Rattle.writer.proofs.Writer.type_runtime_array.Goals as goal

pub declare-requires-clause-room : goal.declare-requires-clause-room
declare-requires-clause-room c = let a = c.args in
    (words (type_runtime_array (low a.id) (low a.element)), (λ s n t k. search rules), room_for declarations (runtime_array a.id a.element refl refl) c.requires)

pub returns : goal.returns
returns c = let a = c.args in
    c.declare.ensures (type_runtime_array a.id a.element) (3) (words (type_runtime_array (low a.id) (low a.element))) (λ s n t k. search rules) (runtime_array a.id a.element refl refl) c.requires
