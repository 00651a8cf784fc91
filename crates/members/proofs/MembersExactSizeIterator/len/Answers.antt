use Rattle.std.proofs.Common.{sym}
use Rattle.members.proofs.Laws.{how_many}
use Rattle.members.proofs.MembersExactSizeIterator.len.Goals as goal

pub returns-clause-value : goal.returns-clause-value
returns-clause-value c = let s = c.args.self.now in sym (how_many s.body.now s.at s.left)
