-- The test of all members is the test of those that are left against the parts that are left (`Matching`).
use Rattle.std.specs.Iterator.Adapters.{enumerate_source, enumerate_count}
use Rattle.members.specs.Walk.{members_left}
use Rattle.writer_constants.proofs.Fitting.{Matching}
use Rattle.writer_constants.proofs.fitness.members_fit.Given as goal

abbrev pub invariant-loop-i : goal.invariant-loop-i
invariant-loop-i l = Matching l.w l.b l.n (members_left l.fn.wanted) (members_left (enumerate_source l.i-iterator)) (enumerate_count l.i-iterator)
