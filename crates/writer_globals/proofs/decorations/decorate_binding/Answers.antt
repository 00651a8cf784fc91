-- Two decorations of a bound global.
use native.Mathlib.Omega.{arith}
use Rattle.writer.proofs.Turns.{added_then, added_within}
use Rattle.writer_globals.proofs.decorations.decorate_binding.Goals as goal

pub returns-in-Some : goal.returns-in-Some
returns-in-Some c = rw c.in-Some.is (added_within (added_then c.decorate.ensures c.decorate-in-Some.ensures) (omega arith))
