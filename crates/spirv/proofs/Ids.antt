-- Ids as words, one by one.
use Prim.Native.Nat.{ℕ, suc, ◌<◌}
use mathlib.Core.Path.{◌≡◌, refl}
use mathlib.Core.List.{List, [], ◌∷◌, map}
use native.Mathlib.Omega.{arith}
use lib.ListN.{get_or}
use Rattle.spirv.specs.Ids.{low}

-- words already
pub low_words : (xs : List ℕ) → ((i : ℕ) → get_or xs i 0 < 4294967296) → map low xs ≡ xs
low_words [] h = refl
low_words (x ∷ xs) h = let e : low x ≡ x = omega (arith, h 0) in let r = low_words xs (λ i. h (suc i)) in λ j. e j ∷ r j
