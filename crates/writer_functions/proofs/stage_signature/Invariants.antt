-- The ids staged so far are the return type's and those of the first i parameters.
use Prim.Native.Nat.{◌+◌}
use Rattle.writer.specs.Staged.{Staged}
use Rattle.writer_functions.proofs.Signatures.{signature}
use Rattle.writer_functions.proofs.stage_signature.Given as goal

abbrev pub invariant-loop-i : goal.invariant-loop-i
invariant-loop-i l = Staged (l.i + 1) (signature l.body l.res l.i) l.fn.w l.w
