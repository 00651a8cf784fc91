-- The first that passes: row by row of a list, and of a list in fours.
use Prim.Native.Nat.{ℕ, ◌+◌, ◌*◌, ◌-◌, ◌≤◌, ◌<◌}
use mathlib.Core.Path.{◌≡◌, sym, ap, ◌∙◌}
use mathlib.Core.Bool.{Bool, true, false}
use mathlib.Core.List.{List, ◌∷◌, ◌++◌}
use Rattle.std.specs.Prelude.{Some}
use Rattle.std.specs.List.{find}
use native.Mathlib.Omega.{arith}
use native.Mathlib.Numerals.{add-one}
use lib.ListN.{length, get_or, drop, length-append, length-drop, drop_of_length-le}
use lib.Seq.{drop-drop, drop-cons, drop-append_seam}

module _ {A : Type 0} where
  from : (xs : List A) (i : ℕ) (x : A) → i < length xs → x ≡ get_or xs i x → drop i xs ≡ x ∷ drop (i + 1) xs
  from xs i x h e =
      let d : drop i xs ≡ get_or xs i x ∷ drop (i + 1) xs = rw (add-one, drop-cons xs i x) in
      d ∙ ap (λ (y : A). y ∷ drop (i + 1) xs) (sym e)

  module _ (t : A → Bool) (xs ys : List A) (i : ℕ) (x : A) (h : i < length xs) (e : x ≡ get_or xs i x) where
    pub found : t x ≡ true → find t (drop i xs ++ ys) ≡ Some x
    found p = rw (from xs i x h e, p)

    pub passed : t x ≡ false → find t (drop i xs ++ ys) ≡ find t (drop (i + 1) xs ++ ys)
    passed p = rw (from xs i x h e, p)

    pub found_last : t x ≡ true → find t (drop i xs) ≡ Some x
    found_last p = rw (from xs i x h e, p)

    pub passed_last : t x ≡ false → find t (drop i xs) ≡ find t (drop (i + 1) xs)
    passed_last p = rw (from xs i x h e, p)

  module _ (xs four r : List A) (k : ℕ) (e : drop (4 * k) xs ≡ four ++ r) (f : length four ≡ 4) (h : 4 * k ≤ length xs) where
    pub fits : 4 * (k + 1) ≤ length xs
    fits =
        let a : length xs - 4 * k ≡ length (four ++ r) = sym (length-drop (4 * k) xs) ∙ ap length e in
        let b = length-append four r in
        omega arith

    pub left : r ≡ drop (4 * (k + 1)) xs
    left =
        let g : 4 * k + 4 ≡ 4 * (k + 1) = omega arith in
        sym (ap (λ (n : ℕ). drop n xs) (sym g) ∙ sym (drop-drop 4 (4 * k) xs) ∙ ap (drop 4) e ∙ ap (λ (n : ℕ). drop n (four ++ r)) (sym f) ∙ drop-append_seam four r)

  pub none_left : (t : A → Bool) (four r : List A) (i : ℕ) → length four ≤ i → find t (drop i four ++ r) ≡ find t r
  none_left t four r i h = rw (drop_of_length-le four {i = i} h)
