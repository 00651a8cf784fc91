-- `put_unread`: the bytes put at the front are the definition's.
use native.Mathlib.Omega.{arith}
use Rattle.printing.proofs.Runs.{printed}
use Rattle.list_main.specs.Answers.{unread_text}
use Rattle.list_main.proofs.put_unread.Goals as goal

pub returns : goal.returns
returns c =
    let p = c.put_bytes in
    let b = c.args.text.now in
    printed unread_text b p.new.text p.result p.ensures.text p.ensures.next (omega (arith, p.ensures.next))
