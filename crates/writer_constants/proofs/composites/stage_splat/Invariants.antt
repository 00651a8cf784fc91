-- After i turns the id is put i times, and nothing else has changed.
use Rattle.writer.specs.Staged.{Staged}
use Rattle.writer_constants.proofs.Staging.{repeated}
use Rattle.writer_constants.proofs.composites.stage_splat.Given as goal

abbrev pub invariant-loop-i : goal.invariant-loop-i
invariant-loop-i l = Staged l.i (repeated l.id l.i) l.initial.w l.w
