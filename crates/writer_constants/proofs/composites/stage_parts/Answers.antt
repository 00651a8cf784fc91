use native.Mathlib.Omega.{arith}
use Rattle.writer_constants.proofs.Staging.{parts_none, parts_more}
use Rattle.writer_constants.proofs.composites.stage_parts.Goals as goal

pub loop-i-init : goal.loop-i-init
loop-i-init c = parts_none c.args.body.now c.args.w.now

pub loop-i-preserved : goal.loop-i-preserved
loop-i-preserved c =
    rw c.stage_part.ensures (parts_more c.args.body.now c.loop-i.invariant (omega (arith, c.requires, c.loop-i-test.true)) (rw c.u16_at.ensures at c.value_at-v.ensures))
