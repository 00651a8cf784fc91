-- Each part of the plan is what its reader promises.
use Rattle.writer_globals.proofs.plan_of.Goals as goal

pub returns : goal.returns
returns c = λ b. record { access = c.access_of.ensures b; form = c.pointer_form_of.ensures b; base = c.binding_base.ensures; null = c.gets_null.ensures }
