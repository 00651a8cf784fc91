-- Test 12. A search for an entry among places, one place a turn: one set of laws for whatever is looked for.
-- Then two records by their tags and bodies.
use Prim.Native.Nat.{ℕ, zero, suc, ◌+◌, ◌-◌, ◌≤◌, ◌<◌}
use mathlib.Core.Path.{◌≡◌, refl, ap, sym, subst, ◌∙◌}
use mathlib.Core.Bool.{Bool, true, false, ◌&&◌, and-false}
use mathlib.Core.List.{List, [], ◌∷◌, map}
use native.Mathlib.Nat.{add-zero}
use native.Mathlib.Numerals.{add-one}
use native.Mathlib.Omega.{arith}
use borrow.Author.Tests.{eq-eqb, ne_eqb}
use lib.Dec.{T, eqb}
use Rattle.definition.proofs.Same.{same_bytes_lem}
use lib.ListN.{length, get_or, drop, drop_of_length-le}
use lib.Seq.{drop-cons}
use Rattle.definition.specs.Choice.{pick}
use Rattle.definition.specs.Bytes.{u32_at}
use Rattle.definition.specs.Sheet.{Record, remap_fields}
use Rattle.definition.specs.Tests.{same_bytes, same_record, type_read, remap_read}
use Rattle.records.specs.Places.{record_from, type_from, remap_from}

-- the element at i, and what is left behind it
drop_at : (l : List ℕ) (i : ℕ) → i < length l → drop i l ≡ get_or l i 0 ∷ drop (i + 1) l
drop_at l i h = rw (add-one, drop-cons l i 0)

-- F: one of the places passes P
pub record Search (F : List ℕ → Bool) (P : ℕ → Bool) : Type 0 where
  pub none : F [] ≡ false
  pub more : (o : ℕ) (os : List ℕ) → F (o ∷ os) ≡ pick (P o) true (F os)

module _ {F : List ℕ → Bool} {P : ℕ → Bool} (w : Search F P) (places : List ℕ) (i : ℕ) where
  step : i < length places → F (drop i places) ≡ pick (P (get_or places i 0)) true (F (drop (i + 1) places))
  step h = ap F (drop_at places i h) ∙ w.more _ _

  pub skip : i < length places → P (get_or places i 0) ≡ false → F (drop i places) ≡ F (drop (i + 1) places)
  skip h e = step h ∙ rw e

  pub hit : i < length places → P (get_or places i 0) ≡ true → F (drop i places) ≡ true
  hit h e = step h ∙ rw e

  pub none_left : length places ≤ i → F (drop i places) ≡ false
  none_left h = ap F (drop_of_length-le places {i = i} h) ∙ w.none

-- and so are all from i to r
pub skip_to : {F : List ℕ → Bool} {P : ℕ → Bool} (w : Search F P) (places : List ℕ) (i r : ℕ) → i ≤ r → r ≤ length places
    → ((j : ℕ) → i ≤ j → j < r → P (get_or places j 0) ≡ false) → F (drop i places) ≡ F (drop r places)
skip_to {F} {P} w places i r lo hi e = let q : i + (r - i) ≡ r = omega arith in go (r - i) (omega arith) ∙ ap (λ (j : ℕ). F (drop j places)) q
  where
    go : (k : ℕ) → i + k ≤ r → F (drop i places) ≡ F (drop (i + k) places)
    go zero h = rw (add-zero i) refl
    go (suc k) h = let q : i + k + 1 ≡ i + suc k = omega arith in
        go k (omega arith) ∙ skip w places (i + k) (omega arith) (e (i + k) (omega arith) (omega arith)) ∙ ap (λ (j : ℕ). F (drop j places)) q

pub types : (s : List ℕ) (r : Record) → Search (λ os. type_read r (map (type_from s) os)) (λ o. same_record (record_from s o) r)
unfolding type_read
types s r = record { none = refl; more = λ o os. refl }

-- ---- the remaps: a turn of the loop over them, and its end

module _ (s places : List ℕ) (k : ℕ) (b : List ℕ) where
  pub remap_turn : k < length places → remap_read (remap_fields b).value (map (remap_from s) (drop k places))
      ≡ pick (eqb (u32_at (record_from s (get_or places k 0)).body 0) (u32_at b 0) && eqb (u32_at (record_from s (get_or places k 0)).body 4) (u32_at b 4)) true
      (remap_read (remap_fields b).value (map (remap_from s) (drop (k + 1) places)))
  unfolding remap_read remap_fields
  remap_turn lt = ap (λ (l : List ℕ). remap_read (remap_fields b).value (map (remap_from s) l)) (drop_at places k lt)

  pub remap_end : length places ≤ k → remap_read (remap_fields b).value (map (remap_from s) (drop k places)) ≡ false
  unfolding remap_read
  remap_end h = ap (λ (l : List ℕ). remap_read (remap_fields b).value (map (remap_from s) l)) (drop_of_length-le places {i = k} h)

-- ---- two records

pub other_tag : (x r : Record) → (x.tag ≡ r.tag → ⊥) → same_record x r ≡ false
unfolding same_record
other_tag x r h = rw (ne_eqb x.tag r.tag h)

pub other_body : (x r : Record) → (x.body ≡ r.body → ⊥) → same_record x r ≡ false
unfolding same_record
other_body x r h = go (same_bytes x.body r.body) refl
  where
    go : (c : Bool) → same_bytes x.body r.body ≡ c → (eqb x.tag r.tag && same_bytes x.body r.body) ≡ false
    go false e = rw (e, and-false)
    go true e = absurd (h (same_bytes_lem x.body r.body (subst T (sym e) tt)))

itself : (a : List ℕ) → same_bytes a a ≡ true
unfolding same_bytes
itself [] = refl
itself (x ∷ a) = rw (eq-eqb x x refl) (itself a)

pub same : (x r : Record) → x.tag ≡ r.tag → x.body ≡ r.body → same_record x r ≡ true
unfolding same_record
same x r h k = rw (eq-eqb x.tag r.tag h, k) (itself r.body)
