use Prim.Native.Nat.{◌-◌, ◌+◌}
use mathlib.Core.Path.{sym, ap, ◌∙◌}
use native.Mathlib.Omega.{arith}
use Rattle.refusals.specs.Numbers.{number_of}
use Rattle.declarations.specs.Promise.{wrapping_as}
use Rattle.wrapped_main.proofs.Lines.{start, more, stop, done}
use Rattle.wrapped_main.proofs.put_answers.Goals as goal

pub loop-i-init : goal.loop-i-init
loop-i-init c = start c.args.sheet.now c.args.text.now

pub loop-i-preserved : goal.loop-i-preserved
loop-i-preserved c =
    let y = c.in-Ok in
    let l = c.loop-i in
    let a = c.args in
    more a.sheet.now a.text.now l.text l.at l.i (64 - l.i) l.invariant (64 - (l.i + 1)) (omega (arith, c.loop-i-test.true)) y.yes c.put_yes_or_no-at.new.text
    c.put_yes_or_no-at.result (sym c.wrapped.ensures.same ∙ ap wrapping_as y.is) c.put_yes_or_no-at.ensures

pub returns-in_default : goal.returns-in_default
returns-in_default c =
    let l = c.loop-i in
    let n = c.in_default in
    stop c.args.sheet.now c.args.text.now l.text l.at l.i (64 - l.i) l.invariant (64 - (l.i + 1)) (omega (arith, c.loop-i-test.true)) (number_of n.field-0)
    (sym c.wrapped.ensures.same ∙ ap wrapping_as n.is) c.requires

pub returns-after-loop-i : goal.returns-after-loop-i
returns-after-loop-i c =
    let l = c.loop-i in
    done c.args.sheet.now c.args.text.now l.text l.at l.i (64 - l.i) l.invariant (omega (arith, c.loop-i-test.false)) c.requires
