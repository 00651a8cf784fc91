use native.Mathlib.Omega.{arith}
use Rattle.writer_constants.proofs.Fitting.{same_part, other_part}
use Rattle.writer_constants.proofs.fitness.all_of_type.Goals as goal

pub loop-i-preserved : goal.loop-i-preserved
loop-i-preserved c = same_part c.loop-i.invariant (omega arith) (rw c.u16_at.ensures at c.value_at-v.ensures) c.if-v-id.false

pub returns-then-v-id : goal.returns-then-v-id
returns-then-v-id c = other_part c.loop-i.invariant (omega arith) (rw c.u16_at.ensures at c.value_at-v.ensures) c.if-v-id.true
