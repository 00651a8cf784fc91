-- The words pending become the last of the section.
use Rattle.writer.proofs.Words.{committed}
use Rattle.writer.proofs.Writer.commit.Goals as goal

pub returns : goal.returns
returns c = committed c.args.self.now c.args.n
