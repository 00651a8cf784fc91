-- The closure puts the instruction's words, the ids taken as words.
use Rattle.std.proofs.Common.{rules}
use mathlib.Core.Path.{refl}
use native.Mathlib.Omega.{arith}
use Rattle.std.specs.Prelude.{option_map}
use Rattle.definition.specs.Instructions.{words, variable}
use Rattle.spirv.specs.Ids.{low}
use Rattle.writer.specs.Regions.{declarations}
use Rattle.writer.proofs.Spelt.{variable_of, room_for}
use Rattle.writer.proofs.Writer.variable.Goals as goal

pub declare-requires-clause-room : goal.declare-requires-clause-room
declare-requires-clause-room c = let a = c.args in
    (words (variable (low a.ty) (low a.id) a.class (option_map low a.init)), (λ s n t k. search rules), room_for declarations (variable_of a.ty a.id a.class a.init refl refl (omega (arith, c.ranges))) c.requires)

pub returns : goal.returns
returns c = let a = c.args in
    c.declare.ensures (variable a.ty a.id a.class a.init) (5) (words (variable (low a.ty) (low a.id) a.class (option_map low a.init))) (λ s n t k. search rules) (variable_of a.ty a.id a.class a.init refl refl (omega (arith, c.ranges))) c.requires
