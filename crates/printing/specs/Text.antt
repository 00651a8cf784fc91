-- The text that the programs print, as bytes (ASCII). Document 01: "prints one word a line, eight lowercase hexadecimal
-- digits, or `refused_text N`".
use Rattle.std.specs.Prelude.{ℕ, zero, suc, ◌/◌, ◌%◌, ◌+◌, ◌≡◌, Bool, true, false, List, [], ◌∷◌, ◌++◌, ltb, length, drop}
use Rattle.std.proofs.lemmas.List.Edits.{sets}
use Rattle.std.specs.Counts.{IsPrefixLen}
use Rattle.definition.specs.Choice.{pick}

abbrev pub newline : ℕ
newline = 10

-- a digit below 16: `0` to `9`, then `a` to `f`
abbrev pub digit_of : ℕ → ℕ
digit_of d = pick (ltb d 10) (48 + d) (87 + d)

-- the last k digits of n in a base, the highest first
unfoldable pub digits : ℕ → ℕ → ℕ → List ℕ
digits base zero n = []
digits base (suc k) n = digits base k (n / base) ++ (digit_of (n % base) ∷ [])

-- a word: eight hexadecimal digits
abbrev pub line_of : ℕ → List ℕ
line_of w = digits 16 8 w ++ (newline ∷ [])

-- one word a line
unfoldable pub lines_of : List ℕ → List ℕ
lines_of [] = []
lines_of (w ∷ ws) = line_of w ++ lines_of ws

-- how many decimal digits a number below 1000 has
abbrev pub digit_count : ℕ → ℕ
digit_count n = pick (ltb n 10) 1 (pick (ltb n 100) 2 3)

-- `refused_text` and a space
abbrev pub refused_text : List ℕ
refused_text = 114 ∷ 101 ∷ 102 ∷ 117 ∷ 115 ∷ 101 ∷ 100 ∷ 32 ∷ []

-- `refused_text N`
abbrev pub refusal_of : ℕ → List ℕ
refusal_of n = refused_text ++ (digits 10 (digit_count n) n ++ (newline ∷ []))

-- `yes` or `no`
abbrev pub yes_or_no : Bool → List ℕ
yes_or_no true = 121 ∷ 101 ∷ 115 ∷ newline ∷ []
yes_or_no false = 110 ∷ 111 ∷ newline ∷ []

-- ---- what a writer into a lent text promises

-- the bytes were put at a place, one after the other, and r is the place behind them
pub record PutText (bytes before : List ℕ) (at : ℕ) (after : List ℕ) (r : ℕ) : Type 0 where
  pub text : after ≡ sets before at bytes
  pub next : r ≡ at + length bytes

-- the text begins with the bytes, its rest is as it was, and r is how many they are
pub record Printed (bytes before after : List ℕ) (r : ℕ) : Type 0 where
  pub text : after ≡ bytes ++ drop (length bytes) before
  pub count : r ≡ length bytes
  pub within : IsPrefixLen r after
