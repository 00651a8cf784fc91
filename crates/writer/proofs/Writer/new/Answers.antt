-- Nothing is in use.
use Rattle.writer.proofs.Empty.{fresh}
use Rattle.writer.proofs.Writer.new.Goals as goal

pub returns-clause-fresh : goal.returns-clause-fresh
returns-clause-fresh c = fresh c.args.records c.args.bytes 0 _ c.unused.ensures
