-- The start is the whole; `goes_on`, `stops` and `ends` are the definition at a byte that is taken, at one that is not, and at the end.
use mathlib.Core.Path.{refl, ap, ◌∙◌, sym}
use Rattle.definition.specs.Utf8.{utf8}
use Rattle.fields.specs.Pending.{ranges_in}
use Rattle.fields.proofs.Octets.{goes_on, stops, ends}
use Rattle.fields.proofs.utf8.is_utf8.Goals as goal

pub loop-b-init : goal.loop-b-init
unfolding utf8
loop-b-init c = refl

pub returns-in_default : goal.returns-in_default
returns-in_default c =
    sym (c.loop-b.invariant ∙ stops _ _ _ c.loop-b-test.true (ap ranges_in (sym c.in_default.is) ∙ c.after.ensures))

pub loop-b-preserved : goal.loop-b-preserved
loop-b-preserved c =
    c.loop-b.invariant ∙ goes_on _ _ _ c.loop-b-test.true _ (ap ranges_in (sym c.in-Some.is) ∙ c.after.ensures)

pub returns : goal.returns
returns c = let p = c.loop-b.p in sym (c.loop-b.invariant ∙ ends _ _ p.left p.low p.high c.loop-b-test.false)
