use Prim.Native.Nat.{ℕ, suc, ◌+◌, ◌/◌, ◌-◌}
use mathlib.Core.Path.{◌≡◌, ap, ◌∙◌}
use native.Mathlib.Nat.{mod-lt}
use native.Mathlib.Omega.{arith}
use lib.ListN.{set, length-set}
use lib.Seq.{sets}
use Rattle.printing.proofs.Lines.{one_digit}
use Rattle.printing.specs.Text.{digits}
use Rattle.printing.proofs.put_digits.Goals as goal

pub digit-requires : goal.digit-requires
digit-requires c =
    let l = c.loop-left in
    let a = c.args in
    omega (arith, mod-lt l.rest {m = a.base} (omega arith))

pub loop-left-preserved : goal.loop-left-preserved
loop-left-preserved c =
    let l = c.loop-left in
    let a = c.args in
    let m = l.left - 1 in
    let q : l.left ≡ suc m = omega arith in (
      omega arith,
      length-set l.text (a.at + m) c.digit.result ∙ l.invariant.1,
      ap (λ (d : ℕ). sets (set l.text (a.at + m) d) a.at (digits a.base m (l.rest / a.base))) c.digit.ensures
          ∙ one_digit l.text a.at a.base l.left m l.rest q
          ∙ l.invariant.2,
    )

pub returns : goal.returns
unfolding digits
returns c =
    let l = c.loop-left in
    let a = c.args in
    let z : 0 ≡ l.left = omega arith in
    ap (λ (j : ℕ). sets l.text a.at (digits a.base j l.rest)) z ∙ l.invariant.2
