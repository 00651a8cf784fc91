-- `fields::is_plain`: as long as no byte was another, all that were passed are plain.
use Rattle.std.proofs.Common.{ℕ, ◌<◌, ◌≤◌, IsTrue, get_or}
use Rattle.fields.proofs.is_plain.Given as goal

abbrev pub invariant-loop-b : goal.invariant-loop-b
invariant-loop-b l = IsTrue l.plain → (k : ℕ) → k < l.b-index → (1 ≤ get_or l.s k 0) × (get_or l.s k 0 ≤ 127)
