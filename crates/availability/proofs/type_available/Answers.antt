-- The shape made is the definition's, what is asked of it is asked of that, and the flags answer as the definition does.
use mathlib.Core.Path.{◌∙◌}
use Rattle.lookup.specs.Local.{local_shape}
use Rattle.availability.proofs.Laws.{as_flagged}
use Rattle.availability.proofs.type_available.Goals as goal

pub returns-in-Some : goal.returns-in-Some
returns-in-Some c = λ o f b n. rw (← c.make_local.ensures b n, c.in-Some.is) (c.shape_available.ensures ∙ as_flagged o _ f (local_shape c.in-Some.l))
