-- The closure puts the instruction's words, the ids taken as words.
use Rattle.std.proofs.Common.{rules}
use mathlib.Core.Path.{refl}
use mathlib.Core.List.{map}
use lib.ListN.{length}
use lib.Dec.{lit<}
use Prim.Native.Nat.{◌+◌}
use Rattle.definition.specs.Numbers.{OpTypeFunction}
use Rattle.definition.specs.Instructions.{words, type_function}
use Rattle.spirv.specs.Ids.{low}
use Rattle.writer.specs.Regions.{declarations}
use Rattle.writer.proofs.Spelt.{type_of_lem, room_for}
use Rattle.writer.proofs.Writer.type_function.Goals as goal

pub declare-requires-clause-room : goal.declare-requires-clause-room
declare-requires-clause-room c = let a = c.args in
    (words (type_function (low a.id) (map low a.types.now)), (λ s n t k. search rules), room_for declarations (type_of_lem OpTypeFunction (lit< tt) a.id a.types.now refl c.requires.0) c.requires.1)

pub returns : goal.returns
returns c = let a = c.args in
    c.declare.ensures (type_function a.id a.types.now) (length a.types.now + 2) (words (type_function (low a.id) (map low a.types.now))) (λ s n t k. search rules) (type_of_lem OpTypeFunction (lit< tt) a.id a.types.now refl c.requires.0) c.requires.1
