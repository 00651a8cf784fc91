-- Runs of stores: one behind another, and a store that does not touch a run before it.
use Prim.Native.Nat.{ℕ, suc, ◌+◌, ◌≤◌, ◌<◌}
use mathlib.Core.Path.{◌≡◌, refl, sym, ap, ◌∙◌}
use mathlib.Core.List.{List, [], ◌∷◌, ◌++◌}
use native.Mathlib.Numerals.{add-one}
use native.Mathlib.Omega.{arith}
use lib.ListN.{length, get_or, take, drop, set}
use lib.Seq.{sets, sets-eq, length-sets, set_comm, take-suc, length-take-le}
use Rattle.printing.specs.Text.{Printed}

pub sets-append : (l : List ℕ) (i : ℕ) (xs ys : List ℕ) → sets l i (xs ++ ys) ≡ sets (sets l i xs) (i + length xs) ys
sets-append l i [] ys = let e : i ≡ i + 0 = omega arith in ap (λ (k : ℕ). sets l k ys) e
sets-append l i (x ∷ xs) ys =
    let e : suc i + length xs ≡ i + suc (length xs) = omega arith in
    sets-append (set l i x) (suc i) xs ys ∙ ap (λ (k : ℕ). sets (sets (set l i x) (suc i) xs) k ys) e

pub set_sets : (l : List ℕ) (i j : ℕ) (vs : List ℕ) (a : ℕ) → i + length vs ≤ j → set (sets l i vs) j a ≡ sets (set l j a) i vs
set_sets l i j [] a h = refl
set_sets l i j (v ∷ vs) a h =
    set_sets (set l i v) (suc i) j vs a (omega arith)
    ∙ ap (λ (z : List ℕ). sets z (suc i) vs) (set_comm l i j v a (λ e. omega arith))

-- ---- one byte more

module _ (l : List ℕ) (i k : ℕ) (vs : List ℕ) (a : ℕ) (e : k ≡ i + length vs) where
  -- behind a run
  pub behind : set (sets l i vs) k a ≡ sets l i (vs ++ (a ∷ []))
  behind = sym (sets-append l i vs (a ∷ []) ∙ ap (λ (j : ℕ). set (sets l i vs) j a) (sym e))

  -- before a run is written whose last byte it is
  pub ahead : sets (set l k a) i vs ≡ sets l i (vs ++ (a ∷ []))
  ahead = sym (set_sets l i k vs a (omega arith)) ∙ behind

-- a turn of the loop that copies
pub copied : (l : List ℕ) (at i : ℕ) (bs : List ℕ) → i < length bs
    → set (sets l at (take i bs)) (at + i) (get_or bs i 0) ≡ sets l at (take (i + 1) bs)
copied l at i bs h =
    behind l at (at + i) (take i bs) (get_or bs i 0) (ap (λ (n : ℕ). at + n) (sym (length-take-le i bs (omega arith))))
    ∙ ap (sets l at) (sym (take-suc bs i 0 h) ∙ ap (λ (n : ℕ). take n bs) (sym (add-one i)))

-- ---- a run at the front

pub printed : (bytes before after : List ℕ) (r : ℕ) → after ≡ sets before 0 bytes → r ≡ length bytes → r ≤ length before → Printed bytes before after r
printed bytes before after r e k h =
    let z : length bytes ≡ 0 + length bytes = omega arith in
    let w : r ≤ length after = omega (arith, ap length e ∙ length-sets before 0 bytes) in
    record {
      text = e ∙ sets-eq bytes before 0 (omega arith) ∙ ap (λ (n : ℕ). bytes ++ drop n before) (sym z);
      count = k;
      within = (w, sym (length-take-le r after w));
    }
