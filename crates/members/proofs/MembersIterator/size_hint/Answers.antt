use Rattle.std.proofs.Common.{arith}
use Rattle.members.proofs.Laws.{how_many}
use Rattle.members.proofs.MembersIterator.size_hint.Goals as goal

pub returns-clause-lower : goal.returns-clause-lower
returns-clause-lower c = let s = c.args.self.now in λ _. omega (arith, how_many s.body.now s.at s.left)

pub returns-clause-upper : goal.returns-clause-upper
returns-clause-upper c = let s = c.args.self.now in (tt, omega (arith, how_many s.body.now s.at s.left))
