-- The three ways in which no record stands there are those of the definition, in its order.
use native.Mathlib.Omega.{arith}
use borrow.Author.Tests.{lt-leb, le-leb, lt-ltb}
use Rattle.definition.specs.Tests.{no_record}
use Rattle.records.proofs.Places.{not_leb}
use Rattle.records.proofs.no_record.Goals as goal

pub returns-then-rest-lt2 : goal.returns-then-rest-lt2
unfolding no_record
returns-then-rest-lt2 c = simp (lt-leb _ _ c.if-rest-lt2.true)

pub returns-then-n-eq0 : goal.returns-then-n-eq0
unfolding no_record
returns-then-n-eq0 c = simp (le-leb _ _ c.if-rest-lt2.false, ← c.u16_at-n.ensures, c.if-n-eq0.true)

pub returns : goal.returns
unfolding no_record
returns c = let n = c.u16_at-n.result in simp (le-leb _ _ c.if-rest-lt2.false, ← c.u16_at-n.ensures, lt-ltb 0 n (omega arith), not_leb)
