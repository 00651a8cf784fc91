use native.Mathlib.Omega.{arith}
use Rattle.module_layout.proofs.Capabilities.{listed_start, two, listed_more}
use Rattle.module_layout.proofs.put_capabilities.Goals as goal

pub loop-number-init : goal.loop-number-init
loop-number-init c = listed_start c.args.numbers.now c.args.out.now

pub overflow_add-at : goal.overflow_add-at
overflow_add-at c =
    let l = c.loop-number in
    omega (arith, l.invariant.place, two c.args.numbers.now c.args.out.now l.number-index l.out l.at l.invariant _ _ c.loop-number-test.true (omega (arith, c.requires, l.auto.out)) c.capability-at.ensures)

pub loop-number-preserved : goal.loop-number-preserved
loop-number-preserved c =
    let l = c.loop-number in
    listed_more c.args.numbers.now c.args.out.now l.number-index l.out l.at l.invariant _ _ c.loop-number-test.true (omega (arith, c.requires, l.auto.out)) c.capability-at.ensures l.auto.out
