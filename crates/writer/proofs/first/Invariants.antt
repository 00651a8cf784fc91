-- The invariants: whatever test the closure answers, what it finds among all the rows is what it finds among those that are left.
use Prim.Native.Nat.{ℕ, ◌*◌, ◌≤◌}
use mathlib.Core.Path.{◌≡◌}
use mathlib.Core.List.{◌++◌}
use lib.ListN.{length, drop}
use Rattle.std.specs.List.{find}
use Rattle.writer.specs.Rows.{Computes}
use Rattle.writer.proofs.first.Given as goal

abbrev pub invariant-loop-row : goal.invariant-loop-row
invariant-loop-row g l =
    (l.row-index ≤ length l.four)
    × ((t : _) → Computes g.P.Fn l.passes t → find t l.rows ≡ find t (drop l.row-index l.four ++ l.four-iterator.rest.now))

abbrev pub invariant-loop-four : goal.invariant-loop-four
invariant-loop-four g l =
    (k : ℕ) × (4 * k ≤ length l.rows) × (l.four-iterator.size ≡ 4) × (l.four-iterator.rest.now ≡ drop (4 * k) l.rows)
    × ((t : _) → Computes g.P.Fn l.passes t → find t l.rows ≡ find t l.four-iterator.rest.now)

abbrev pub invariant-loop-row-2 : goal.invariant-loop-row-2
invariant-loop-row-2 g l =
    (l.row-index ≤ length l.rest)
    × ((t : _) → Computes g.P.Fn l.passes t → find t l.rows ≡ find t (drop l.row-index l.rest))
