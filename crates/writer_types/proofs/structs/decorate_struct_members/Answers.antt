-- The loop begins with all of it left, and each member's decorations are the first step of what is left (`on`).
use Rattle.std.proofs.Common.{arith}
use mathlib.Core.Logic.{inl}
use Rattle.members.proofs.Laws.{how_many}
use Rattle.writer_types.proofs.Decorating.{room_left, on, done}
use Rattle.writer_types.proofs.structs.decorate_struct_members.Goals as goal

pub loop-i-init-derived : goal.loop-i-init-derived
loop-i-init-derived c =
    let s = c.args.members in
    let few = how_many s.body.now s.at s.left in
    rw (c.into_iter-i-iterator.ensures.into_iter_gives, c.enumerate-i-items.ensures.source, c.enumerate-i-items.ensures.count) ((tt, tt, inl (omega (arith, few, c.ranges.members))), tt)

pub loop-i-init : goal.loop-i-init
loop-i-init c =
    let s = c.args.members in
    rw (c.into_iter-i-iterator.ensures.into_iter_gives, c.enumerate-i-items.ensures.source, c.enumerate-i-items.ensures.count)
    (record { few = omega (arith, how_many s.body.now s.at s.left, c.ranges.members); room = c.requires; rest = λ u k. k })

pub decorate_member-requires : goal.decorate_member-requires
decorate_member-requires c = room_left c.in-Some.ensures.steps.0 c.loop-i.invariant

pub loop-i-preserved : goal.loop-i-preserved
loop-i-preserved c =
    let st = c.in-Some.ensures.steps in
    on st.0 c.loop-i.invariant st.1 st.2 c.decorate_member.ensures

pub returns : goal.returns
returns c = done c.in-None.ensures.steps.0.0 c.loop-i.invariant
