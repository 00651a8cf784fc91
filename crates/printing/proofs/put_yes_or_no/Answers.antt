-- `put_yes_or_no`: either word's bytes are the definition's line.
use Rattle.printing.proofs.put_yes_or_no.Goals as goal

pub returns-then-yes : goal.returns-then-yes
returns-then-yes c = rw c.if-yes.true c.put_bytes.ensures

pub returns : goal.returns
returns c = rw c.if-yes.false c.put_bytes-2.ensures
