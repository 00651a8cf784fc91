-- The code's account of what must still come of a character, as the definition's list of ranges.
use Rattle.std.specs.Prelude.{ℕ, zero, suc, List, [], ◌∷◌, replicate}
use Rattle.std.specs.Prelude.{Option, Some, None}
use Rattle.definition.specs.Choice.{pick}
use Rattle.definition.specs.Utf8.{Range, range, in_range, utf8_tail, utf8_char, follow_of}
use Rattle.fields.specs.declared.utf8.Pending.{Pending}

-- n ranges, of which only the first is no utf8_tail
abbrev pub ranges : ℕ → ℕ → ℕ → List Range
ranges zero l h = []
ranges (suc n) l h = range l h ∷ replicate n utf8_tail

-- the ranges that the struct stands for
abbrev pub ranges_of : Pending → List Range
ranges_of p = ranges p.left p.low p.high

-- the same where a byte may not be able to stand
abbrev pub ranges_in : Option Pending → Option (List Range)
ranges_in (Some p) = Some (ranges_of p)
ranges_in None = None

-- what a byte leaves to come of the ranges, or of the alternative that it begins where none are left
abbrev pub step_of : List Range → ℕ → Option (List Range)
step_of [] b = follow_of utf8_char b
step_of (r ∷ rs) b = pick (in_range r b) (Some rs) None
