use Rattle.std.proofs.Common.{◌∙◌, sym, arith}
use Rattle.members.proofs.Laws.{end_stop}
use Rattle.members.proofs.Members.end.Goals as goal

pub returns : goal.returns
returns c = let s = c.loop-self.self in sym (end_stop s.body.now s.at s.left (omega (arith, c.loop-self-test.false))) ∙ c.loop-self.invariant
