-- `put_refusal`: the word, the digits and the newline, one behind the other (`refusal`).
use native.Mathlib.Omega.{arith}
use Rattle.printing.proofs.Lines.{refusal}
use Rattle.printing.proofs.put_refusal.Goals as goal

pub returns : goal.returns
returns c =
    let k = c.places-k in
    let a = c.args in
    refusal a.text.now c.put_bytes-at.new.text c.put_digits.new.text a.n k.result c.put_bytes-at.result c.put_bytes-at.ensures k.ensures.value
    k.ensures.upper_bound c.put_digits.ensures (omega arith)
