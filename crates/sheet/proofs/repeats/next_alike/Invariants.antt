-- None of the hashes before those that are left is the one.
use Prim.Native.Nat.{◌-◌, ◌≤◌}
use lib.ListN.{length}
use Rattle.sheet.specs.Hash.{Unlike}
use Rattle.sheet.proofs.repeats.next_alike.Given as goal

abbrev pub invariant-eights : goal.invariant-eights
invariant-eights l = (l.i ≤ l.from) × ((l.from ≤ length l.hashes) × Unlike l.hashes l.h l.i l.from)

abbrev pub decreases-eights : goal.decreases-eights
decreases-eights l = length l.hashes - l.from

abbrev pub invariant-loop-j : goal.invariant-loop-j
invariant-loop-j l = Unlike l.hashes l.h l.i l.j
