-- The closure puts the instruction's words, the ids taken as words; the decoration's number is a word.
use Rattle.std.proofs.Common.{rules}
use mathlib.Core.Path.{refl}
use lib.ListN.{length}
use Prim.Native.Nat.{◌+◌}
use native.Mathlib.Omega.{arith}
use Rattle.definition.specs.Instructions.{words, decorate}
use Rattle.spirv.specs.Ids.{low}
use Rattle.writer.specs.Regions.{annotations}
use Rattle.writer.proofs.Spelt.{decorates, room_for}
use Rattle.writer.proofs.Writer.decorate.Goals as goal

pub annotate-requires-clause-room : goal.annotate-requires-clause-room
annotate-requires-clause-room g c = let a = c.args in
    (words (decorate (low a.target) c.word-number.result a.operands.now), (λ s n t k. search rules), room_for annotations (decorates a.target c.word-number.result a.operands.now refl (omega (arith, c.word-number.type_inv, c.ranges)) c.requires.0 (λ i. omega (arith, c.type_inv.operands i))) c.requires.1)

pub returns : goal.returns
returns g c = let a = c.args in
    rw (← c.word-number.ensures) (c.annotate.ensures (decorate a.target c.word-number.result a.operands.now) (length a.operands.now + 3) (words (decorate (low a.target) c.word-number.result a.operands.now)) (λ s n t k. search rules) (decorates a.target c.word-number.result a.operands.now refl (omega (arith, c.word-number.type_inv, c.ranges)) c.requires.0 (λ i. omega (arith, c.type_inv.operands i))) (rw (c.word-number.ensures, c.requires.2) refl) c.requires.1)
