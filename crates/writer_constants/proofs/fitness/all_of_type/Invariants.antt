-- The test of all parts is the test of those that are left, as long as each so far is of the type.
use Rattle.writer_constants.proofs.Fitting.{PartsLeft}
use Rattle.writer_constants.proofs.fitness.all_of_type.Given as goal

abbrev pub invariant-loop-i : goal.invariant-loop-i
invariant-loop-i l = PartsLeft l.w l.id l.b l.n l.i
