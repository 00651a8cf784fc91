-- A packed string: how many words there are, and that they are those of the bytes four by four.
use Prim.Native.Nat.{ℕ, zero, suc, ◌+◌, ◌*◌, ◌/◌}
use mathlib.Core.Path.{◌≡◌, refl, ap}
use mathlib.Core.List.{List, [], ◌∷◌, ◌++◌, map}
use native.Mathlib.Omega.{arith}
use lib.ListN.{length, drop}
use Rattle.std.specs.Simd.{first_chunks}
use Rattle.definition.specs.Instructions.{little_endian, packed}
use Rattle.spirv.specs.Bytes.{word_of}

pub packed-length : (bs : List ℕ) → length (packed bs) ≡ length bs / 4 + 1
unfolding packed
packed-length [] = refl
packed-length (a ∷ []) = refl
packed-length (a ∷ (b ∷ [])) = refl
packed-length (a ∷ (b ∷ (c ∷ []))) = refl
packed-length (a ∷ (b ∷ (c ∷ (d ∷ bs)))) = omega (arith, packed-length bs)

-- four bytes at a time, and what is left of them
pub packed_chunks : (k : ℕ) (bs : List ℕ) → k ≡ length bs / 4 → packed bs ≡ map word_of (first_chunks 4 k bs) ++ word_of (drop (k * 4) bs) ∷ []
unfolding packed
packed_chunks zero [] h = refl
packed_chunks zero (a ∷ []) h = refl
packed_chunks zero (a ∷ (b ∷ [])) h = refl
packed_chunks zero (a ∷ (b ∷ (c ∷ []))) h = refl
packed_chunks zero (a ∷ (b ∷ (c ∷ (d ∷ bs)))) h = absurd (omega (arith, h))
packed_chunks (suc k) [] h = absurd (omega (arith, h))
packed_chunks (suc k) (a ∷ []) h = absurd (omega (arith, h))
packed_chunks (suc k) (a ∷ (b ∷ [])) h = absurd (omega (arith, h))
packed_chunks (suc k) (a ∷ (b ∷ (c ∷ []))) h = absurd (omega (arith, h))
packed_chunks (suc k) (a ∷ (b ∷ (c ∷ (d ∷ bs)))) h =
    let e : suc k * 4 ≡ suc (suc (suc (suc (k * 4)))) = omega arith in
    rw e (ap (λ (ws : List ℕ). little_endian a b c d ∷ ws) (packed_chunks k bs (omega (arith, h))))
