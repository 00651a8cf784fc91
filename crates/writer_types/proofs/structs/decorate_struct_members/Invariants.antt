-- The invariant (`Going`): whatever does what is left to be done of the members does the whole.
use Rattle.std.specs.Iterator.Adapters.{enumerate_source, enumerate_count}
use Rattle.members.specs.Walk.{members_left}
use Rattle.records.specs.Places.{types_in}
use Rattle.writer_types.proofs.Decorating.{Going}
use Rattle.writer_types.proofs.structs.decorate_struct_members.Given as goal

abbrev pub invariant-loop-i : goal.invariant-loop-i
invariant-loop-i l = Going l.debug (types_in l.types) l.id (members_left l.fn.members) l.fn.w l.w (members_left (enumerate_source l.i-iterator)) (enumerate_count l.i-iterator)
