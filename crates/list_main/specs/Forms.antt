-- The two forms in which words are written: what is read piece by piece is what is read of the whole, and how many bytes it has.
use Prim.Native.Nat.{ℕ, zero, suc, ◌+◌, ◌*◌}
use mathlib.Core.Path.{◌≡◌, refl}
use mathlib.Core.Bool.{Bool, true, false}
use mathlib.Core.List.{List, [], ◌∷◌, ◌++◌}
use Rattle.std.specs.Prelude.{Option, Some, None}
use native.Mathlib.Omega.{arith}
use lib.Dec.{ltb, eqb}
use lib.ListN.{length}
use borrow.Author.Tests.{eqb-true}
use Rattle.definition.specs.Choice.{pick}
use Rattle.printing.specs.Text.{newline}
use Rattle.list_main.specs.Answers.{before, digit_in, text_from, text_words, low_first, binary_words}
use Rattle.list_main.specs.Words.{both, OfCount}

pub weaken : (P Q : ℕ → Type 0) → ((n : ℕ) → P n → Q n) → (o : Option (List ℕ)) → OfCount P o → OfCount Q o
weaken P Q f None h = tt
weaken P Q f (Some ws) h = f (length ws) h

-- ---- lines of eight digits

pub text_nothing : text_words [] ≡ Some []
unfolding text_from
text_nothing = refl

-- k digits of a line are to come
line_joined : (k w : ℕ) (line later : List ℕ) → length line ≡ suc k → text_from k w (line ++ later) ≡ both (text_from k w line) (text_words later)
unfolding text_from
line_joined k w [] later h = absurd (omega arith)
line_joined zero w (b ∷ []) later h = by (eqb b newline)
  where
    by : (t : Bool) → pick t (before (w ∷ []) (text_words later)) None ≡ both (pick t (before (w ∷ []) (Some [])) None) (text_words later)
    by true = refl
    by false = refl
line_joined zero w (b ∷ (c ∷ bs)) later h = absurd (omega arith)
line_joined (suc k) w (b ∷ bs) later h = by (ltb (digit_in b) 16) (line_joined k (w * 16 + digit_in b) bs later (omega arith))
  where
    by : (t : Bool) → text_from k (w * 16 + digit_in b) (bs ++ later) ≡ both (text_from k (w * 16 + digit_in b) bs) (text_words later)
        → pick t (text_from k (w * 16 + digit_in b) (bs ++ later)) None ≡ both (pick t (text_from k (w * 16 + digit_in b) bs) None) (text_words later)
    by true e = e
    by false e = refl

pub text_joined : (line later : List ℕ) → length line ≡ 9 → text_words (line ++ later) ≡ both (text_words line) (text_words later)
text_joined line later h = line_joined 8 0 line later h

abbrev Lined : List ℕ → ℕ → ℕ → Type 0
Lined s k n = length s + 8 ≡ 9 * n + k

line_counted : (k w : ℕ) (s : List ℕ) → OfCount (Lined s k) (text_from k w s)
unfolding text_from
line_counted k w [] = by (eqb k 8) refl
  where
    by : (t : Bool) → eqb k 8 ≡ t → OfCount (Lined [] k) (pick t (Some []) None)
    by true e = omega (arith, eqb-true k 8 e)
    by false e = tt
line_counted zero w (b ∷ bs) = by (eqb b newline) (text_from 8 0 bs) (line_counted 8 0 bs)
  where
    by : (t : Bool) (o : Option (List ℕ)) → OfCount (Lined bs 8) o → OfCount (Lined (b ∷ bs) 0) (pick t (before (w ∷ []) o) None)
    by true None h = tt
    by true (Some ws) h = omega arith
    by false o h = tt
line_counted (suc k) w (b ∷ bs) = by (ltb (digit_in b) 16) (text_from k (w * 16 + digit_in b) bs) (line_counted k (w * 16 + digit_in b) bs)
  where
    by : (t : Bool) (o : Option (List ℕ)) → OfCount (Lined bs k) o → OfCount (Lined (b ∷ bs) (suc k)) (pick t o None)
    by true None h = tt
    by true (Some ws) h = omega arith
    by false o h = tt

pub text_counted : (s : List ℕ) → OfCount (λ (n : ℕ). length s ≡ 9 * n) (text_words s)
text_counted s = weaken (Lined s 8) (λ (n : ℕ). length s ≡ 9 * n) (λ n h. omega arith) (text_words s) (line_counted 8 0 s)

-- ---- four bytes for each word

pub binary_nothing : binary_words [] ≡ Some []
unfolding binary_words
binary_nothing = refl

pub binary_joined : (bytes later : List ℕ) → length bytes ≡ 4 → binary_words (bytes ++ later) ≡ both (binary_words bytes) (binary_words later)
unfolding binary_words
binary_joined [] later h = absurd (omega arith)
binary_joined (a ∷ []) later h = absurd (omega arith)
binary_joined (a ∷ (b ∷ [])) later h = absurd (omega arith)
binary_joined (a ∷ (b ∷ (c ∷ []))) later h = absurd (omega arith)
binary_joined (a ∷ (b ∷ (c ∷ (d ∷ [])))) later h = refl
binary_joined (a ∷ (b ∷ (c ∷ (d ∷ (e ∷ bs))))) later h = absurd (omega arith)

pub one_word : (bytes : List ℕ) → length bytes ≡ 4 → binary_words bytes ≡ Some (low_first bytes ∷ [])
unfolding binary_words
one_word [] h = absurd (omega arith)
one_word (a ∷ []) h = absurd (omega arith)
one_word (a ∷ (b ∷ [])) h = absurd (omega arith)
one_word (a ∷ (b ∷ (c ∷ []))) h = absurd (omega arith)
one_word (a ∷ (b ∷ (c ∷ (d ∷ [])))) h = refl
one_word (a ∷ (b ∷ (c ∷ (d ∷ (e ∷ bs))))) h = absurd (omega arith)

pub binary_counted : (s : List ℕ) → OfCount (λ (n : ℕ). length s ≡ 4 * n) (binary_words s)
unfolding binary_words
binary_counted [] = refl
binary_counted (a ∷ []) = tt
binary_counted (a ∷ (b ∷ [])) = tt
binary_counted (a ∷ (b ∷ (c ∷ []))) = tt
binary_counted (a ∷ (b ∷ (c ∷ (d ∷ bs)))) = by (low_first (a ∷ b ∷ c ∷ d ∷ [])) (binary_words bs) (binary_counted bs)
  where
    by : (w : ℕ) (o : Option (List ℕ)) → OfCount (λ (n : ℕ). length bs ≡ 4 * n) o
        → OfCount (λ (n : ℕ). length (a ∷ (b ∷ (c ∷ (d ∷ bs)))) ≡ 4 * n) (before (w ∷ []) o)
    by w None h = tt
    by w (Some ws) h = omega arith
