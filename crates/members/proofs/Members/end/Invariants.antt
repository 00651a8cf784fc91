-- What is left ends where the whole does.
use Rattle.std.proofs.Common.{◌≡◌}
use Rattle.members.specs.Walk.{end_left}
use Rattle.members.proofs.Members.end.Given as goal

abbrev pub invariant-loop-self : goal.invariant-loop-self
invariant-loop-self l = end_left l.self ≡ end_left l.fn.self

abbrev pub decreases-loop-self : goal.decreases-loop-self
decreases-loop-self l = l.self.left
