use Rattle.members.proofs.Laws.{none_left}
use Rattle.members.proofs.MembersIterator.next.Goals as goal

pub returns-then-self-eq0-clause-steps : goal.returns-then-self-eq0-clause-steps
returns-then-self-eq0-clause-steps c = let s = c.args.self.now in let e = none_left s.body.now s.at s.left c.if-self-eq0.true in (e, e)
