-- The closure puts the instruction's words, the ids taken as words.
use Rattle.std.proofs.Common.{rules}
use mathlib.Core.Path.{refl}
use native.Mathlib.Omega.{arith}
use Rattle.definition.specs.Instructions.{words, type_pointer}
use Rattle.spirv.specs.Ids.{low}
use Rattle.writer.specs.Regions.{declarations}
use Rattle.writer.proofs.Spelt.{pointer, room_for}
use Rattle.writer.proofs.Writer.type_pointer.Goals as goal

pub declare-requires-clause-room : goal.declare-requires-clause-room
declare-requires-clause-room c = let a = c.args in
    (words (type_pointer (low a.id) a.class (low a.base)), (λ s n t k. search rules), room_for declarations (pointer a.id a.class a.base refl (omega (arith, c.ranges)) refl) c.requires)

pub returns : goal.returns
returns c = let a = c.args in
    c.declare.ensures (type_pointer a.id a.class a.base) (4) (words (type_pointer (low a.id) a.class (low a.base))) (λ s n t k. search rules) (pointer a.id a.class a.base refl (omega (arith, c.ranges)) refl) c.requires
