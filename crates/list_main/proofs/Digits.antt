-- A byte as a hexadecimal digit: in each range of bytes, what the definition's tests come to.
use Prim.Native.Nat.{ℕ, ◌+◌, ◌-◌, ◌≤◌, ◌<◌}
use mathlib.Core.Path.{◌≡◌, refl, ◌∙◌}
use native.Mathlib.Omega.{arith}
use mathlib.Core.Bool.{Bool, true, false, ◌&&◌}
use lib.Dec.{leb, ltb}
use borrow.Author.Tests.{le-leb, lt-leb, lt-ltb, le-ltb, ltb-true, ltb-false}
use Rattle.std.specs.Char.{digit_value}
use Rattle.definition.specs.Choice.{within}
use Rattle.list_main.specs.Answers.{digit_in}

inside : (low high b : ℕ) → low ≤ b → b ≤ high → within low high b ≡ true
inside low high b h l = simp (le-leb low b h, le-leb b high l)

pub below : (low high b : ℕ) → b < low → within low high b ≡ false
below low high b h = simp (lt-leb low b h)

pub above : (low high b : ℕ) → high < b → within low high b ≡ false
above low high b h = simp (lt-leb b high h) (by (leb low b))
  where
    by : (t : Bool) → t && false ≡ false
    by true = refl
    by false = refl

module _ (b : ℕ) where
  pub decimal : 48 ≤ b → b ≤ 57 → b - 48 ≡ digit_in b
  unfolding digit_in
  decimal h l = simp (inside 48 57 b h l)

  pub lower : within 48 57 b ≡ false → 97 ≤ b → b ≤ 102 → b - 97 + 10 ≡ digit_in b
  unfolding digit_in
  lower e h l = simp (e, inside 97 102 b h l)

  pub upper : within 48 57 b ≡ false → within 97 102 b ≡ false → 65 ≤ b → b ≤ 70 → b - 65 + 10 ≡ digit_in b
  unfolding digit_in
  upper e f h l = simp (e, f, inside 65 70 b h l)

  pub other : within 48 57 b ≡ false → within 97 102 b ≡ false → within 65 70 b ≡ false → 16 ≡ digit_in b
  unfolding digit_in
  other e f g = simp (e, f, g)

-- ---- std's value of a digit is the definition's, where it is a hexadecimal one

pub record Meant (b : ℕ) : Type 0 where
  pub digit : digit_value b < 16 → digit_value b ≡ digit_in b
  pub other : 16 ≤ digit_value b → 16 ≤ digit_in b

is_digit : (b v : ℕ) → digit_value b ≡ v → v ≡ digit_in b → v < 16 → Meant b
is_digit b v e f h = record { digit = λ l. e ∙ f; other = λ l. absurd (omega arith) }

no_digit : (b v : ℕ) → digit_value b ≡ v → 16 ≡ digit_in b → 16 ≤ v → Meant b
no_digit b v e f h = record { digit = λ l. absurd (omega arith); other = λ l. omega arith }

-- the ranges of bytes from the highest down
from_97 : (b : ℕ) → 97 ≤ b → Meant b
from_97 b h = by (ltb b 103) (ltb b 123) refl refl
  where
    by : (s t : Bool) → ltb b 103 ≡ s → ltb b 123 ≡ t → Meant b
    by true t e f =
        let l = ltb-true b 103 e in
        let v : digit_value b ≡ b - 87 = simp (le-ltb b 48 (omega arith), le-ltb b 58 (omega arith), le-ltb b 65 (omega arith), le-ltb b 91 (omega arith), le-ltb b 97 h, lt-ltb b 123 (omega arith)) in
        let w : b - 87 ≡ b - 97 + 10 = omega arith in
        is_digit b (b - 87) v (w ∙ lower b (above 48 57 b (omega arith)) h (omega arith)) (omega arith)
    by false true e f =
        let l = ltb-false b 103 e in
        let v : digit_value b ≡ b - 87 = simp (le-ltb b 48 (omega arith), le-ltb b 58 (omega arith), le-ltb b 65 (omega arith), le-ltb b 91 (omega arith), le-ltb b 97 h, f) in
        no_digit b (b - 87) v (other b (above 48 57 b (omega arith)) (above 97 102 b (omega arith)) (above 65 70 b (omega arith))) (omega arith)
    by false false e f =
        let l = ltb-false b 103 e in
        let v : digit_value b ≡ 36 = simp (le-ltb b 48 (omega arith), le-ltb b 58 (omega arith), le-ltb b 65 (omega arith), le-ltb b 91 (omega arith), le-ltb b 97 h, f) in
        no_digit b 36 v (other b (above 48 57 b (omega arith)) (above 97 102 b (omega arith)) (above 65 70 b (omega arith))) (omega arith)

from_65 : (b : ℕ) → 65 ≤ b → b < 97 → Meant b
from_65 b h g = by (ltb b 71) (ltb b 91) refl refl
  where
    by : (s t : Bool) → ltb b 71 ≡ s → ltb b 91 ≡ t → Meant b
    by true t e f =
        let l = ltb-true b 71 e in
        let v : digit_value b ≡ b - 55 = simp (le-ltb b 48 (omega arith), le-ltb b 58 (omega arith), le-ltb b 65 h, lt-ltb b 91 (omega arith)) in
        let w : b - 55 ≡ b - 65 + 10 = omega arith in
        is_digit b (b - 55) v (w ∙ upper b (above 48 57 b (omega arith)) (below 97 102 b g) h (omega arith)) (omega arith)
    by false true e f =
        let l = ltb-false b 71 e in
        let v : digit_value b ≡ b - 55 = simp (le-ltb b 48 (omega arith), le-ltb b 58 (omega arith), le-ltb b 65 h, f) in
        no_digit b (b - 55) v (other b (above 48 57 b (omega arith)) (below 97 102 b g) (above 65 70 b (omega arith))) (omega arith)
    by false false e f =
        let l = ltb-false b 71 e in
        let v : digit_value b ≡ 36 = simp (le-ltb b 48 (omega arith), le-ltb b 58 (omega arith), le-ltb b 65 h, f, lt-ltb b 97 g) in
        no_digit b 36 v (other b (above 48 57 b (omega arith)) (below 97 102 b g) (above 65 70 b (omega arith))) (omega arith)

below_65 : (b : ℕ) → b < 65 → Meant b
below_65 b g = by (ltb b 48) (ltb b 58) refl refl
  where
    by : (s t : Bool) → ltb b 48 ≡ s → ltb b 58 ≡ t → Meant b
    by true t e f =
        let v : digit_value b ≡ 36 = simp e in
        let l = ltb-true b 48 e in
        no_digit b 36 v (other b (below 48 57 b l) (below 97 102 b (omega arith)) (below 65 70 b g)) (omega arith)
    by false true e f =
        let v : digit_value b ≡ b - 48 = simp (e, f) in
        let k = ltb-false b 48 e in
        let l = ltb-true b 58 f in
        is_digit b (b - 48) v (decimal b k (omega arith)) (omega arith)
    by false false e f =
        let v : digit_value b ≡ 36 = simp (e, f, lt-ltb b 65 g) in
        let l = ltb-false b 58 f in
        no_digit b 36 v (other b (above 48 57 b (omega arith)) (below 97 102 b (omega arith)) (below 65 70 b g)) (omega arith)

pub meant : (b : ℕ) → Meant b
meant b = by (ltb b 65) (ltb b 97) refl refl
  where
    by : (s t : Bool) → ltb b 65 ≡ s → ltb b 97 ≡ t → Meant b
    by true t e f = below_65 b (ltb-true b 65 e)
    by false true e f = from_65 b (ltb-false b 65 e) (ltb-true b 97 f)
    by false false e f = from_97 b (ltb-false b 97 f)
