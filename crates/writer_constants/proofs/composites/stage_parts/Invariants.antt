-- After i turns i parts are put, and nothing else has changed.
use Rattle.writer.specs.Staged.{Staged}
use Rattle.writer_constants.proofs.Staging.{ids_named}
use Rattle.writer_constants.proofs.composites.stage_parts.Given as goal

abbrev pub invariant-loop-i : goal.invariant-loop-i
invariant-loop-i l = Staged l.i (ids_named l.body l.i) l.initial.w l.w
