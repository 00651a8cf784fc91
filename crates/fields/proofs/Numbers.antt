-- Past the end of the bytes every number is 0: a byte is, and of two halves that are 0 so is the whole. The law is over
-- the halves, so each width takes it from the width below. Then numbers of 16 bits in a row: how many, and one more at the end.
use Prim.Native.Nat.{ℕ, zero, suc, ◌+◌, ◌*◌, ◌≤◌}
use mathlib.Core.Path.{◌≡◌, refl, ap, ◌∙◌}
use mathlib.Core.List.{List, [], ◌∷◌, ◌++◌}
use native.Mathlib.Nat.{zero-mul, add-zero}
use native.Mathlib.Omega.{arith}
use lib.ListN.{length, get_or-eq_default}
use Rattle.definition.specs.Bytes.{u8_at, u16_at, u32_at, u64_at}
use Rattle.definition.specs.Sheet.{u16s_at}

abbrev Past : (List ℕ → ℕ → ℕ) → Type 0
Past f = (s : List ℕ) (i : ℕ) → length s ≤ i → f s i ≡ 0

halves : (f : List ℕ → ℕ → ℕ) (scale step : ℕ) → Past f → Past (λ s i. f s i * scale + f s (i + step))
halves f scale step h s i p = simp (h s i p, h s (i + step) (omega arith), zero-mul, add-zero)

pub past_8 : Past u8_at
past_8 s i p = get_or-eq_default s 0 p

pub past_16 : Past u16_at
unfolding u16_at
past_16 = halves u8_at 256 1 past_8

pub past_32 : Past u32_at
unfolding u32_at
past_32 = halves u16_at 65536 2 past_16

pub past_64 : Past u64_at
unfolding u64_at
past_64 = halves u32_at 4294967296 4 past_32

-- ---- numbers of 16 bits, one after the other

pub u16s_length : (b : List ℕ) (p n : ℕ) → length (u16s_at b p n) ≡ n
unfolding u16s_at
u16s_length b p zero = refl
u16s_length b p (suc n) = ap suc (u16s_length b (p + 2) n)

pub u16s_snoc : (b : List ℕ) (p n : ℕ) → u16s_at b p n ++ u16_at b (p + 2 * n) ∷ [] ≡ u16s_at b p (suc n)
unfolding u16s_at
u16s_snoc b p zero = let e : p + 2 * 0 ≡ p = omega arith in ap (λ (j : ℕ). u16_at b j ∷ []) e
u16s_snoc b p (suc n) =
    let e : p + 2 * suc n ≡ p + 2 + 2 * n = omega arith in
    ap (λ (l : List ℕ). u16_at b p ∷ l) (ap (λ (j : ℕ). u16s_at b (p + 2) n ++ u16_at b j ∷ []) e ∙ u16s_snoc b (p + 2) n)
