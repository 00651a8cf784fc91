-- `put_answer_to`: what Check answered decides what is printed (`decided`).
use Rattle.std.specs.Prelude.{Ok, Err}
use Rattle.wrapped_main.proofs.Lines.{decided}
use Rattle.wrapped_main.proofs.put_answer_to.Goals as goal

pub returns-in-Ok : goal.returns-in-Ok
returns-in-Ok c =
    let a = c.args in
    decided a.sheet.now a.text.now c.put_answers.new.text c.put_answers.result c.check.result (Ok tt) c.check.ensures c.in-Ok.is
    c.put_answers.ensures

pub returns-in-Err : goal.returns-in-Err
returns-in-Err c =
    let n = c.in-Err in
    let a = c.args in
    decided a.sheet.now a.text.now c.put_refusal.new.text c.put_refusal.result c.check.result (Err n.refusal) c.check.ensures n.is
    (rw (← c.number.ensures) c.put_refusal.ensures)
