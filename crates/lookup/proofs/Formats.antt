-- The extended formats lie in three ranges: one computed test over the 256 numbers of a byte (`all_right`), from which each
-- number's answer is taken (`below`).
use Prim.Native.Nat.{ℕ, zero, suc, ◌<◌}
use mathlib.Core.Path.{◌≡◌, refl}
use mathlib.Core.Bool.{Bool, true, false, ◌&&◌, beq}
use mathlib.Core.Logic.{◌⊎◌, inl, inr}
use native.Mathlib.Omega.{arith}
use lib.Dec.{T, ltb}
use Rattle.definition.specs.Choice.{pick, among}
use Rattle.definition.specs.Finding.{extended_formats}
use Rattle.definition.proofs.Truth.{both_true, alike_is}

-- what the code tests
abbrev pub extended : ℕ → Bool
extended f = pick (ltb f 6) false (pick (ltb f 21) true (pick (ltb f 25) false (pick (ltb f 30) true (pick (ltb f 34) false (ltb f 40)))))

-- a test holds of every number below n
all_below : (ℕ → Bool) → ℕ → Bool
all_below P zero = true
all_below P (suc n) = P n && all_below P n

cases : (k n : ℕ) → k < suc n → (k ≡ n) ⊎ (k < n)
cases zero zero h = inl refl
cases zero (suc n) h = inr (omega arith)
cases (suc k) zero h = absurd (omega arith)
cases (suc k) (suc n) h = more (cases k n (omega arith))
  where
    more : (k ≡ n) ⊎ (k < n) → (suc k ≡ suc n) ⊎ (suc k < suc n)
    more (inl e) = inl (omega arith)
    more (inr l) = inr (omega arith)

below : (P : ℕ → Bool) (n : ℕ) → T (all_below P n) → (k : ℕ) → k < n → T (P k)
unfolding all_below
below P zero t k h = absurd (omega arith)
below P (suc n) t k h = go (both_true (P n) (all_below P n) t).0 (below P n (both_true (P n) (all_below P n) t).1 k) (cases k n h)
  where
    go : T (P n) → (k < n → T (P k)) → (k ≡ n) ⊎ (k < n) → T (P k)
    go p q (inl e) = rw e p
    go p q (inr l) = q l

-- the definition's list and the ranges agree on a number
right : ℕ → Bool
right f = beq (among f extended_formats) (extended f)

all_right : T (all_below right 256)
unfolding all_below right
all_right = tt

pub is_extended : (f : ℕ) → f < 256 → among f extended_formats ≡ extended f
unfolding right
is_extended f h = alike_is (among f extended_formats) (extended f) (below right 256 all_right f h)
