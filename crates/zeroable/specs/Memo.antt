-- Which type entries are parts of one, and what the memo of the program says of them.
use Rattle.std.specs.Prelude.{ℕ, ◌≤◌, ◌≡◌, Bool, true, false, ◌&&◌, List, ltb, length, get_or}
use Rattle.definition.specs.Choice.{every}
use Rattle.definition.specs.Sheet.{TypeEntry, Member}
use Rattle.definition.specs.Tests.{member_types}
use Rattle.definition.specs.Zeroable.{zeroable}

-- type j as a part of type i: it stands before it, and is zeroable
abbrev pub part_zeroable : List TypeEntry → ℕ → ℕ → Bool
part_zeroable ts i j = ltb j i && zeroable ts j

-- each of a struct's members
abbrev pub zero_members : List TypeEntry → ℕ → List Member → Bool
zero_members ts i ms = every (part_zeroable ts i) (member_types ms)

abbrev pub memo_flag : Bool → ℕ
memo_flag true = 1
memo_flag false = 2

-- what a memo says of the types: 1 yes, 2 no, else nothing; and of what is no type nothing. It has a place for each type, so that
-- what is found of one is kept: else a type would be looked into again as often as it is a part, and the walk could be exponential
pub record Memo (ts : List TypeEntry) (m : List ℕ) : Type 0 where
  pub long : length ts ≤ length m
  pub yes : (k : ℕ) → get_or m k 0 ≡ 1 → zeroable ts k ≡ true
  pub no : (k : ℕ) → get_or m k 0 ≡ 2 → zeroable ts k ≡ false
  pub fresh : (k : ℕ) → length ts ≤ k → get_or m k 0 ≡ 0
