-- The invariant of both loops: the numbers are the same if those that are left are. A pair that differs decides at once.
use Rattle.writer.specs.Rows.{part, same_list}
use lib.ListN.{drop}
use Prim.Native.Nat.{◌-◌, ◌≤◌}
use mathlib.Core.Path.{◌≡◌}
use Rattle.writer.proofs.same_parts.Given as goal

abbrev pub invariant-fours : goal.invariant-fours
invariant-fours l = (l.j ≤ l.n) × (same_list (part l.tables l.p l.n) (part l.tables l.q l.n) ≡ same_list (drop l.j (part l.tables l.p l.n)) (drop l.j (part l.tables l.q l.n)))

abbrev pub decreases-fours : goal.decreases-fours
decreases-fours l = l.n - l.j

abbrev pub invariant-loop-j : goal.invariant-loop-j
invariant-loop-j l = (l.j ≤ l.n) × (same_list (part l.tables l.p l.n) (part l.tables l.q l.n) ≡ same_list (drop l.j (part l.tables l.p l.n)) (drop l.j (part l.tables l.q l.n)))

abbrev pub decreases-loop-j : goal.decreases-loop-j
decreases-loop-j l = l.n - l.j
