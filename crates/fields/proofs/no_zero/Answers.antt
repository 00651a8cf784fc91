-- `fields::no_zero`: the definition is the search for a 0, turned round.
use mathlib.Core.Bool.{not}
use mathlib.Core.Path.{ap, ◌∙◌}
use Rattle.fields.proofs.Octets.{no_zero_any}
use Rattle.fields.proofs.no_zero.Goals as goal

pub returns : goal.returns
returns c = ap not c.contains.ensures.value ∙ no_zero_any c.args.s.now
