-- Texts that the definitions of specs/Text.antt come to, computed.
use mathlib.Core.Path.{◌≡◌, refl}
use mathlib.Core.List.{[], ◌∷◌, ◌++◌}
use Rattle.printing.specs.Text.{lines_of, refusal_of, digits}

-- `07230203`, `0000001c` and `ffffffff`, a line each
words : lines_of (119734787 ∷ 28 ∷ 4294967295 ∷ [])
    ≡ 48 ∷ 55 ∷ 50 ∷ 51 ∷ 48 ∷ 50 ∷ 48 ∷ 51 ∷ 10 ∷ 48 ∷ 48 ∷ 48 ∷ 48 ∷ 48 ∷ 48 ∷ 49 ∷ 99 ∷ 10 ∷ 102 ∷ 102 ∷ 102 ∷ 102 ∷ 102 ∷ 102 ∷ 102 ∷ 102 ∷ 10 ∷ []
unfolding lines_of digits
words = refl

-- `refused 9`, `refused 16` and `refused 255`
refusals : refusal_of 9 ++ (refusal_of 16 ++ refusal_of 255)
    ≡ 114 ∷ 101 ∷ 102 ∷ 117 ∷ 115 ∷ 101 ∷ 100 ∷ 32 ∷ 57 ∷ 10 ∷ 114 ∷ 101 ∷ 102 ∷ 117 ∷ 115 ∷ 101 ∷ 100 ∷ 32 ∷ 49 ∷ 54 ∷ 10 ∷ 114 ∷ 101 ∷ 102 ∷ 117 ∷ 115 ∷ 101 ∷ 100 ∷ 32 ∷ 50 ∷ 53 ∷ 53 ∷ 10 ∷ []
unfolding digits
refusals = refl
