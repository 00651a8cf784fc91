-- The part behind length and tag; a length of 0 has no byte for the tag, and the body is empty.
use Rattle.definition.specs.Sheet.{record_at}
use Rattle.records.proofs.body_of.Goals as goal

pub returns-then-n-eq0 : goal.returns-then-n-eq0
unfolding record_at
returns-then-n-eq0 c = simp (← c.u16_at-n.ensures, c.if-n-eq0.true) c.part.ensures

pub returns : goal.returns
unfolding record_at
returns c = simp (← c.u16_at-n.ensures) c.part-2.ensures
