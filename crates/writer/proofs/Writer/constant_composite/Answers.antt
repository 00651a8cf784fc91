-- The closure puts the instruction's words, the ids taken as words.
use Rattle.std.proofs.Common.{rules}
use mathlib.Core.Path.{refl}
use mathlib.Core.List.{map}
use lib.ListN.{length}
use Prim.Native.Nat.{◌+◌}
use Rattle.definition.specs.Instructions.{words, constant_composite}
use Rattle.spirv.specs.Ids.{low}
use Rattle.writer.specs.Regions.{declarations}
use Rattle.writer.proofs.Spelt.{composite_of_lem, room_for}
use Rattle.writer.proofs.Writer.constant_composite.Goals as goal

pub declare-requires-clause-room : goal.declare-requires-clause-room
declare-requires-clause-room c = let a = c.args in
    (words (constant_composite (low a.ty) (low a.id) (map low a.parts.now)), (λ s n t k. search rules), room_for declarations (composite_of_lem a.ty a.id a.parts.now refl refl c.requires.0) c.requires.1)

pub returns : goal.returns
returns c = let a = c.args in
    c.declare.ensures (constant_composite a.ty a.id a.parts.now) (length a.parts.now + 3) (words (constant_composite (low a.ty) (low a.id) (map low a.parts.now))) (λ s n t k. search rules) (composite_of_lem a.ty a.id a.parts.now refl refl c.requires.0) c.requires.1
