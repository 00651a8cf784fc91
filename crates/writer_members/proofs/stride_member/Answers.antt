-- Two annotations where there is a stride, else nothing.
use native.Mathlib.Omega.{arith}
use Rattle.writer.proofs.Turns.{added_then, added_within}
use Rattle.writer_members.proofs.stride_member.Goals as goal

pub returns-in-Some : goal.returns-in-Some
returns-in-Some c = rw c.in-Some.is (added_within (added_then c.member_decorate.ensures c.member_decorate-in-Some.ensures) (omega arith))
