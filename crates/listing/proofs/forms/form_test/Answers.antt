-- An opcode's form reads the test (`written_as`), and where there is none it is not written (`unwritten`).
use Rattle.std.proofs.Common.{sym, ◌∙◌, refl}
use Rattle.listing.proofs.Layouts.{written_as, unwritten}
use Rattle.listing.proofs.forms.form_test.Goals as goal

pub returns-in-Some : goal.returns-in-Some
returns-in-Some c = (c.in-Some.ensures, written_as c.args.op c.in-Some.form c.args.n c.ranges.n.fits c.in-Some.ensures ∙ sym c.fits.ensures ∙ c.if-fits.true)

pub returns-in_default : goal.returns-in_default
returns-in_default c = (refl, written_as c.args.op c.in-Some.form c.args.n c.ranges.n.fits c.in-Some.ensures ∙ sym c.fits.ensures ∙ c.if-fits.false)

pub returns-in_default-2 : goal.returns-in_default-2
returns-in_default-2 c = (refl, unwritten c.args.op c.args.n c.in_default.ensures)
