-- A row of the table, or none past its end.
use Rattle.writer.proofs.Values.{value_past}
use Rattle.writer.proofs.Writer.value_at.Goals as goal

pub returns-then-self-c : goal.returns-then-self-c
returns-then-self-c c = let a = c.args in value_past a.self.now a.c c.if-self-c.true
