-- `put_answer_to`: Declare's promise says that answer and buffer are the definition's, and its count lies within the buffer
-- (`counted`), so that what is put of them is what is printed for the sheet.
use mathlib.Core.Path.{subst, sym}
use native.Mathlib.Omega.{arith}
use lib.ListN.{replicate}
use Rattle.definition.specs.Operations.{Declared}
use Rattle.printing.specs.Text.{Printed}
use Rattle.declare_main.specs.Answers.{printed, words_lent, CountWithin}
use Rattle.declare_main.proofs.Laws.{counted}
use Rattle.declare_main.proofs.put_answer_to.Goals as goal

pub put_answer-requires : goal.put_answer-requires
put_answer-requires c =
    let s = c.args.sheet.now in
    (subst (λ (z : Declared). CountWithin z.answer z.buffer) (sym c.declare-a.ensures.same) (counted s (replicate words_lent 0)), omega arith, omega arith)

pub returns : goal.returns
returns c =
    subst (λ (z : Declared). Printed (printed z) c.args.text.now c.put_answer.new.text c.put_answer.result)
    c.declare-a.ensures.same c.put_answer.ensures
