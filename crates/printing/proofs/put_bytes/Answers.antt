use Prim.Native.Nat.{◌+◌, ℕ}
use mathlib.Core.List.{List}
use mathlib.Core.Path.{◌≡◌, ap, ◌∙◌}
use native.Mathlib.Omega.{arith}
use lib.ListN.{set, get_or, length-set, length}
use lib.Seq.{take_all, sets}
use Rattle.printing.proofs.Runs.{copied}
use Rattle.printing.proofs.put_bytes.Goals as goal

pub loop-i-preserved : goal.loop-i-preserved
loop-i-preserved c =
    let l = c.loop-i in
    let a = c.args in
    let b = get_or a.bytes.now l.i 0 in (
      omega arith,
      length-set l.text (a.at + l.i) b ∙ l.invariant.1,
      ap (λ (z : List ℕ). set z (a.at + l.i) b) l.invariant.2 ∙ copied a.text.now a.at l.i a.bytes.now (omega arith),
    )

pub returns : goal.returns
returns c =
    let l = c.loop-i in
    let a = c.args in
    let e : l.i ≡ length a.bytes.now = omega arith in
    record { text = l.invariant.2 ∙ ap (sets a.text.now a.at) (take_all l.i a.bytes.now (omega arith)); next = omega arith }
