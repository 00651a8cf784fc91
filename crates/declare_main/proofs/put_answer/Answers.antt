-- `put_answer`: in each case of the answer, what was put is what the definition prints of that case.
use Rattle.declare_main.proofs.put_answer.Goals as goal

pub returns-in-Ok : goal.returns-in-Ok
returns-in-Ok c = rw c.in-Ok.is c.put_lines.ensures.printed

pub returns-in-Err : goal.returns-in-Err
returns-in-Err c = rw c.in-Err.is (rw (← c.number.ensures) c.put_refusal.ensures)
