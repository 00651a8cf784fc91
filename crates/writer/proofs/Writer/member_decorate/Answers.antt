-- The closure puts the instruction's words, the ids taken as words; the decoration's number is a word.
use Rattle.std.proofs.Common.{rules}
use mathlib.Core.Path.{refl}
use lib.ListN.{length}
use Prim.Native.Nat.{◌+◌}
use native.Mathlib.Omega.{arith}
use Rattle.definition.specs.Instructions.{words, member_decorate}
use Rattle.spirv.specs.Ids.{low}
use Rattle.writer.specs.Regions.{annotations}
use Rattle.writer.proofs.Spelt.{decorates_member, room_for}
use Rattle.writer.proofs.Writer.member_decorate.Goals as goal

pub annotate-requires-clause-room : goal.annotate-requires-clause-room
annotate-requires-clause-room g c = let a = c.args in
    (words (member_decorate (low a.target) a.member c.word-number.result a.operands.now), (λ s n t k. search rules), room_for annotations (decorates_member a.target a.member c.word-number.result a.operands.now refl (omega (arith, c.word-number.type_inv, c.ranges)) (omega (arith, c.word-number.type_inv, c.ranges)) c.requires.0 (λ i. omega (arith, c.type_inv.operands i))) c.requires.1)

pub returns : goal.returns
returns g c = let a = c.args in
    rw (← c.word-number.ensures) (c.annotate.ensures (member_decorate a.target a.member c.word-number.result a.operands.now) (length a.operands.now + 4) (words (member_decorate (low a.target) a.member c.word-number.result a.operands.now)) (λ s n t k. search rules) (decorates_member a.target a.member c.word-number.result a.operands.now refl (omega (arith, c.word-number.type_inv, c.ranges)) (omega (arith, c.word-number.type_inv, c.ranges)) c.requires.0 (λ i. omega (arith, c.type_inv.operands i))) refl c.requires.1)
