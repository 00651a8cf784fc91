-- One byte of the definition's scan at a place of the list: what it leaves to come decides the rest. Then what it leaves to
-- come of the ranges that the code's three numbers stand for, the search for a zero, and names of plain bytes.
use Prim.Native.Nat.{ℕ, zero, suc, ◌+◌, ◌-◌, ◌≤◌, ◌<◌}
use mathlib.Core.Path.{◌≡◌, refl, ap, sym, ◌∙◌}
use mathlib.Core.Bool.{Bool, true, false, not, ◌&&◌}
use mathlib.Core.List.{List, [], ◌∷◌}
use Rattle.std.specs.Prelude.{Option, Some, None}
use native.Mathlib.Numerals.{add-one, sub-one}
use native.Mathlib.Omega.{arith}
use borrow.Author.Tests.{le-leb}
use lib.Dec.{eqb, eqb-suc-zero}
use Rattle.std.proofs.Common.{nat_eq, All}
use Rattle.std.specs.List.{list_any}
use lib.ListN.{length, get_or, drop, replicate, drop_of_length-le}
use lib.Seq.{drop-cons}
use Rattle.definition.specs.Choice.{pick, within}
use Rattle.definition.specs.Utf8.{Range, utf8_char, utf8_tail, follow_of, octets, utf8, no_zero, in_range}
use Rattle.fields.specs.Pending.{ranges, step_of}

-- the byte at i, and what is left after it
next : (s : List ℕ) (i : ℕ) → i < length s → drop i s ≡ get_or s i 0 ∷ drop (i + 1) s
next s i h = rw (add-one, drop-cons s i 0)

abbrev onward : List ℕ → Option (List Range) → Bool
onward bs None = false
onward bs (Some rs) = octets bs rs

pick_onward : (t : Bool) (bs : List ℕ) (rs : List Range) → (t && octets bs rs) ≡ onward bs (pick t (Some rs) None)
pick_onward true bs rs = refl
pick_onward false bs rs = refl

elim_onward : (o : Option (List Range)) (bs : List ℕ) → elim o [ None ↦ false | Some rs ↦ octets bs rs ] ≡ onward bs o
elim_onward None bs = refl
elim_onward (Some rs) bs = refl

step : (b : ℕ) (bs : List ℕ) (rs : List Range) → octets (b ∷ bs) rs ≡ onward bs (step_of rs b)
unfolding octets
step b bs [] = elim_onward (follow_of utf8_char b) bs
step b bs (r ∷ rs) = pick_onward (in_range r b) bs rs

module _ (s : List ℕ) (i : ℕ) (rs : List Range) (h : i < length s) where
  here : octets (drop i s) rs ≡ onward (drop (i + 1) s) (step_of rs (get_or s i 0))
  here = ap (λ (bs : List ℕ). octets bs rs) (next s i h) ∙ step (get_or s i 0) (drop (i + 1) s) rs

  pub goes_on : (qs : List Range) → Some qs ≡ step_of rs (get_or s i 0) → octets (drop i s) rs ≡ octets (drop (i + 1) s) qs
  goes_on qs e = here ∙ ap (onward (drop (i + 1) s)) (sym e)

  pub stops : None ≡ step_of rs (get_or s i 0) → octets (drop i s) rs ≡ false
  stops e = here ∙ ap (onward (drop (i + 1) s)) (sym e)

-- at the end nothing may be left to come
pub ends : (s : List ℕ) (i n l h : ℕ) → length s ≤ i → octets (drop i s) (ranges n l h) ≡ eqb n 0
unfolding octets
ends s i zero l h p = rw (drop_of_length-le s {i = i} p)
ends s i (suc n) l h p = rw (drop_of_length-le s {i = i} p, eqb-suc-zero n)

-- n tails, as the code has them and as the definition lists them
tails : (n : ℕ) → ranges n 0x80 0xBF ≡ replicate n utf8_tail
tails zero = refl
tails (suc n) = refl

within_is : (l h b : ℕ) → l ≤ b → b ≤ h → within l h b ≡ true
within_is l h b p q = simp (le-leb l b p, le-leb b h q)

-- a byte of the first range leaves the others to come
pub fitting : (l h b n : ℕ) → (n ≡ 0 → ⊥) → l ≤ b → b ≤ h → Some (ranges (n - 1) 0x80 0xBF) ≡ step_of (ranges n l h) b
fitting l h b zero f p q = absurd (f refl)
fitting l h b (suc n) f p q = rw (within_is l h b p q, sub-one, tails n)

-- no byte is 0 where a search for 0 finds none
pub no_zero_any : (s : List ℕ) → not (list_any (λ b. nat_eq b 0) s) ≡ no_zero s
unfolding no_zero
no_zero_any [] = refl
no_zero_any (zero ∷ bs) = refl
no_zero_any (suc b ∷ bs) = rw (eqb-suc-zero b, le-leb 1 (suc b) (omega arith)) (no_zero_any bs)

-- bytes from 1 to 127 are each a character of its own, and none is 0
module _ (b : ℕ) (bs : List ℕ) (p : 1 ≤ b) (q : b ≤ 127) where
  plain_octets : octets (b ∷ bs) [] ≡ octets bs []
  plain_octets =
      let begun : follow_of utf8_char b ≡ Some [] = rw (within_is 0x00 0x7F b (omega arith) q) in
      step b bs [] ∙ ap (onward bs) begun

  plain_no_zero : no_zero (b ∷ bs) ≡ no_zero bs
  unfolding no_zero
  plain_no_zero = rw (le-leb 1 b p)

pub plain_fits : (s : List ℕ) → All (λ b. (1 ≤ b) × (b ≤ 127)) s → (utf8 s ≡ true) × (no_zero s ≡ true)
unfolding utf8 no_zero octets
plain_fits [] h = (refl, refl)
plain_fits (b ∷ bs) h =
    let p = h 0 b (omega arith) in
    let rest : (utf8 bs ≡ true) × (no_zero bs ≡ true) = plain_fits bs (λ k d l. h (suc k) d (omega arith)) in
    (plain_octets b bs p.0 p.1 ∙ rest.0, plain_no_zero b bs p.0 p.1 ∙ rest.1)
