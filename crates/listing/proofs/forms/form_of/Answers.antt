-- Up to the table's end the form is read from it (`in_table`); behind it stand two opcodes.
use Rattle.std.specs.Prelude.{None}
use Rattle.listing.proofs.Layouts.{in_table}
use Rattle.listing.proofs.forms.form_of.Goals as goal

pub returns-then-i-lt73 : goal.returns-then-i-lt73
returns-then-i-lt73 c = in_table c.args.op None c.if-i-lt73.true
