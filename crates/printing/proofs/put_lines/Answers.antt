use Prim.Native.Nat.{ℕ, ◌*◌}
use mathlib.Core.Path.{refl, ap, ◌∙◌}
use mathlib.Core.List.{List}
use native.Mathlib.Omega.{arith}
use lib.ListN.{length, get_or}
use lib.Seq.{sets, length-sets}
use Rattle.printing.proofs.Lines.{one_line, all_lines}
use Rattle.printing.specs.Text.{lines_of, line_of}
use Rattle.printing.proofs.put_lines.Goals as goal

pub loop-i-init : goal.loop-i-init
unfolding lines_of
loop-i-init c = (omega arith, refl, refl)

pub loop-i-preserved : goal.loop-i-preserved
loop-i-preserved c =
    let l = c.loop-i in
    let a = c.args in
    let w = get_or a.words.now l.i 0 in (
      omega arith,
      c.put_line.ensures
          ∙ ap (λ (z : List ℕ). sets z (9 * l.i) (line_of w)) l.invariant.1
          ∙ one_line a.text.now a.words.now l.i (omega arith),
      ap length c.put_line.ensures ∙ length-sets l.text (9 * l.i) (line_of w) ∙ l.invariant.2,
    )

pub returns : goal.returns
returns c =
    let l = c.loop-i in
    let a = c.args in
    record { printed = all_lines a.text.now a.words.now l.text l.i l.invariant.1 (omega (arith, l.invariant.0, c.loop-i-test.false)) (omega arith); value = refl }
