-- The invariant: what is found among all the rows is what is found among those that are left, whose parts begin at the running
-- offset.
use mathlib.Core.Path.{◌≡◌}
use Prim.Native.Nat.{◌+◌, ◌-◌, ◌*◌, ◌≤◌}
use Rattle.writer.specs.Rows.{triple, part, seek_parts}
use Rattle.writer.proofs.Search.{pieces}
use Rattle.writer.proofs.seek_parts.Given as goal

abbrev pub invariant-loop-row : goal.invariant-loop-row
invariant-loop-row l =
    (l.row-index ≤ l.n) × (l.rows ≡ pieces triple l.tables l.start l.n) × (l.at ≤ l.q)
    × (seek_parts l.key (part l.tables l.q l.m) l.q l.tables l.start l.parts l.n ≡ seek_parts l.key (part l.tables l.q l.m) l.q l.tables (l.start + 3 * l.row-index) l.at (l.n - l.row-index))
