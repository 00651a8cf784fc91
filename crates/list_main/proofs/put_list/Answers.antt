use Prim.Native.Nat.{◌+◌, ◌-◌, ◌*◌}
use mathlib.Core.Path.{◌≡◌, ap, ◌∙◌, subst}
use native.Mathlib.Omega.{arith}
use lib.ListN.{length, drop, length-drop}
use lib.Seq.{take_all}
use Rattle.printing.specs.Text.{Printed}
use Rattle.list_main.specs.Answers.{following, list_text}
use Rattle.list_main.proofs.Lines.{more, done}
use Rattle.list_main.proofs.put_list.Goals as goal

pub loop-i-preserved : goal.loop-i-preserved
loop-i-preserved c =
    let l = c.loop-i in
    let ws = c.args.list.now in
    let t = c.args.text.now in
    let f = c.following-left in
    let p = c.put_word in
    let e : f.result ≡ following l.left (drop (l.i + 1) ws) = f.ensures ∙ ap (following l.left) (take_all (length ws - (l.i + 1)) (drop (l.i + 1) ws) (omega (arith, length-drop (l.i + 1) ws))) in
    more ws t l.text l.left l.i l.invariant f.result p.new.text c.loop-i-test.true e p.ensures

pub returns : goal.returns
returns c =
    let l = c.loop-i in
    let ws = c.args.list.now in
    let t = c.args.text.now in
    let e : l.i ≡ length ws = omega (arith, l.invariant.within, c.loop-i-test.false) in
    subst (λ n. Printed (list_text ws) t l.text (9 * n)) e (done ws t l.text l.left l.i l.invariant e c.requires)
