-- Words that are read one after the other, and how many they are.
use Rattle.std.specs.Prelude.{ℕ, List, length, Option, Some, None}
use Rattle.list_main.specs.Answers.{before}

-- words and those behind them, if both can be read
abbrev pub both : Option (List ℕ) → Option (List ℕ) → Option (List ℕ)
both None later = None
both (Some ws) later = before ws later

-- P holds of how many words were read, if any
abbrev pub OfCount : (ℕ → Type 0) → Option (List ℕ) → Type 0
OfCount P None = Unit
OfCount P (Some ws) = P (length ws)
