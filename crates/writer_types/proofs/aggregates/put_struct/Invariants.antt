-- The invariant (`Putting`): the words that wait and the ids that are left are the instruction's words; the count says when
-- all are put.
use Rattle.std.specs.Iterator.Adapters.{enumerate_source, enumerate_count}
use Rattle.members.specs.Walk.{members_left}
use Rattle.writer_types.proofs.Putting.{Putting}
use Rattle.writer_types.proofs.aggregates.put_struct.Given as goal

abbrev pub invariant-loop-i : goal.invariant-loop-i
invariant-loop-i l = Putting l.id (members_left l.fn.members) l.fn.w l.w (members_left (enumerate_source l.i-iterator)) (enumerate_count l.i-iterator)
