use Rattle.writer_constants.proofs.Fitting.{matched, other_member, all_matched}
use Rattle.writer_constants.proofs.fitness.members_fit.Goals as goal

pub returns-then-v-id : goal.returns-then-v-id
returns-then-v-id c =
    let st = c.in-Some.ensures.steps in
    other_member c.loop-i.invariant st.0 (rw (c.u16_at.ensures, st.1) at c.value_at-v.ensures) c.type_id-id.ensures c.if-v-id.true

pub loop-i-preserved : goal.loop-i-preserved
loop-i-preserved c =
    let st = c.in-Some.ensures.steps in
    matched c.loop-i.invariant st.0 (rw (c.u16_at.ensures, st.1) at c.value_at-v.ensures) c.type_id-id.ensures c.if-v-id.false st.2

pub returns : goal.returns
returns c = all_matched c.loop-i.invariant c.in-None.ensures.steps.0.0
