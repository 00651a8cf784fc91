-- The head stands first (`headed`), each word is that of the next member (`next`), and the whole is put at last (`ended`).
use Rattle.std.proofs.Common.{arith}
use Rattle.members.proofs.Laws.{how_many}
use Rattle.writer_types.proofs.Putting.{headed, next, ended}
use Rattle.writer_types.proofs.aggregates.put_struct.Goals as goal

pub type_struct_head-requires : goal.type_struct_head-requires
type_struct_head-requires c =
    let s = c.args.members in
    (omega (arith, how_many s.body.now s.at s.left, c.len-count.ensures.value, c.ranges.members), omega (arith, c.len-count.ensures.value, c.requires.1))

pub loop-i-init : goal.loop-i-init
loop-i-init c =
    let s = c.args.members in
    rw (c.into_iter-i-iterator.ensures.into_iter_gives, c.enumerate-i-items.ensures.source, c.enumerate-i-items.ensures.count)
    (headed (omega (arith, how_many s.body.now s.at s.left, c.ranges.members)) (rw c.len-count.ensures.value at c.type_struct_head.ensures))

pub loop-i-preserved : goal.loop-i-preserved
loop-i-preserved c =
    let st = c.in-Some.ensures.steps in
    next c.loop-i.invariant st.0 c.type_id-x.ensures c.low_word.ensures st.1 st.2 c.put_pending.ensures

pub returns : goal.returns
returns c = ended c.loop-i.invariant c.in-None.ensures.steps.0.0 c.len-count.ensures.value c.commit.ensures
