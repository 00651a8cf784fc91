-- A line read digit by digit, and words read piece by piece: what was read already, before what the rest is read as, is the whole.
-- A byte that does not fit leaves no reading.
use Prim.Native.Nat.{ℕ, suc, ◌+◌, ◌*◌, ◌-◌, ◌^◌, ◌≤◌, ◌<◌}
use mathlib.Core.Path.{◌≡◌, refl, sym, ap, ◌∙◌, subst}
use mathlib.Core.List.{List, [], ◌∷◌, ◌++◌, append_assoc, append-nil}
use Rattle.std.specs.Prelude.{Option, Some, None}
use native.Mathlib.Nat.{pow-suc, mul_assoc, mul_comm, le_trans, pow-le-pow_right, mul-le-mul_right, mul-le-mul_left, le-mul_of_pos_right}
use native.Mathlib.Numerals.{add-one}
use native.Mathlib.Omega.{arith}
use lib.ListN.{length, get_or, drop, take, take-append-drop, set, length-set, length-drop, drop_of_length-le}
use lib.Dec.{leb}
use mathlib.Core.Bool.{Bool, true, false}
use Rattle.definition.specs.Choice.{pick}
use Rattle.list_main.specs.Words.{both, OfCount}
use lib.Seq.{drop-cons, take-suc-set, length-take-le}
use Rattle.std.specs.Char.{digit_value}
use borrow.Author.Tests.{le-leb, leb-true, lt-ltb, le-ltb, eq-eqb, ne_eqb}
use Rattle.printing.specs.Text.{newline}
use Rattle.list_main.specs.Answers.{at_most, before, digit_in, text_from, text_words}
use Rattle.list_main.proofs.Digits.{meant}

none_left : (l : List ℕ) → length l ≡ 0 → l ≡ []
none_left [] e = refl
none_left (w ∷ ws) e = absurd (omega arith)

-- ---- one byte of a line

line_ends : (k w b : ℕ) (bs : List ℕ) → k ≡ 0 → b ≡ newline → text_from k w (b ∷ bs) ≡ before (w ∷ []) (text_from 8 0 bs)
unfolding text_from
line_ends k w b bs z e = ap (λ (j : ℕ). text_from j w (b ∷ bs)) z ∙ simp (eq-eqb b newline e)

line_goes_on : (k w b : ℕ) (bs : List ℕ) → k ≡ 0 → (b ≡ newline → ⊥) → text_from k w (b ∷ bs) ≡ None
unfolding text_from
line_goes_on k w b bs z ne = ap (λ (j : ℕ). text_from j w (b ∷ bs)) z ∙ simp (ne_eqb b newline ne)

module _ (k w b d : ℕ) (bs : List ℕ) (p : 0 < k) (e : d ≡ digit_in b) where
  one_left : text_from k w (b ∷ bs) ≡ text_from (suc (k - 1)) w (b ∷ bs)
  one_left = let q : k ≡ suc (k - 1) = omega arith in ap (λ (j : ℕ). text_from j w (b ∷ bs)) q

  a_digit : d < 16 → text_from k w (b ∷ bs) ≡ text_from (k - 1) (w * 16 + d) bs
  unfolding text_from
  a_digit h =
      one_left
      ∙ (simp (lt-ltb (digit_in b) 16 (subst (λ (x : ℕ). x < 16) e h)))
      ∙ ap (λ (x : ℕ). text_from (k - 1) (w * 16 + x) bs) (sym e)

  other_byte : 16 ≤ d → text_from k w (b ∷ bs) ≡ None
  unfolding text_from
  other_byte h = one_left ∙ simp (le-ltb (digit_in b) 16 (subst (λ (x : ℕ). 16 ≤ x) e h))

text_ends : (k w : ℕ) → k ≡ 8 → text_from k w [] ≡ Some []
unfolding text_from
text_ends k w e = simp (eq-eqb k 8 e)

text_breaks_off : (k w : ℕ) → (k ≡ 8 → ⊥) → text_from k w [] ≡ None
unfolding text_from
text_breaks_off k w ne = simp (ne_eqb k 8 ne)

-- ---- a word fits 32 bits, with all of the k digits that are to come behind those of w

abbrev Fits : ℕ → ℕ → Type 0
Fits w k = (w + 1) * 16 ^ k ≤ 4294967296

one_more : (w d k : ℕ) → 0 < k → d < 16 → Fits w k → Fits (w * 16 + d) (k - 1)
one_more w d k p h f =
    let m = k - 1 in
    let e : k ≡ suc m = omega arith in
    let q : (w + 1) * 16 ^ k ≡ (w + 1) * 16 * 16 ^ m =
    ap (λ (x : ℕ). (w + 1) * x) (ap (λ (j : ℕ). 16 ^ j) e ∙ pow-suc 16 m ∙ mul_comm (16 ^ m) 16) ∙ sym (mul_assoc (w + 1) 16 (16 ^ m)) in
    let l : w * 16 + d + 1 ≤ (w + 1) * 16 = omega arith in
    le_trans (mul-le-mul_right (16 ^ m) l) (subst (λ (x : ℕ). x ≤ 4294967296) q f)

fits_word : (w k : ℕ) → Fits w k → w < 4294967296
fits_word w k f =
    let p : 1 ≤ 16 ^ k = pow-le-pow_right {n = 16} (omega arith) {i = 0} {j = k} (omega arith) in
    let l : w + 1 ≤ (w + 1) * 16 ^ k = le-mul_of_pos_right (w + 1) p in
    omega (arith, le_trans l f)

-- ---- a line

-- i digits of the line make w
pub record Begun (line : List ℕ) (w i : ℕ) : Type 0 where
  pub fits : Fits w (8 - i)
  pub whole : text_from (8 - i) w (drop i line) ≡ text_words line

first_left : (s : List ℕ) (i : ℕ) → i < length s → drop i s ≡ get_or s i 0 ∷ drop (i + 1) s
first_left s i h = rw (add-one, drop-cons s i 0)

module _ (line : List ℕ) (w i : ℕ) (g : Begun line w i) (n : length line ≡ 9) where
  module _ (h : i < 8) (b : ℕ) (at : b ≡ get_or line i 0) where
    here : text_from (8 - i) w (b ∷ drop (i + 1) line) ≡ text_words line
    here =
        ap (λ (x : ℕ). text_from (8 - i) w (x ∷ drop (i + 1) line)) at
        ∙ ap (text_from (8 - i) w) (sym (first_left line i (omega arith)))
        ∙ g.whole

    pub line_more : (d : ℕ) → digit_value b < 16 → d ≡ digit_value b → Begun line (w * 16 + d) (i + 1)
    line_more d l e =
        let f : d ≡ digit_in b = e ∙ (meant b).digit l in
        let k : 8 - i - 1 ≡ 8 - (i + 1) = omega arith in
        let m : d < 16 = omega arith in
        record {
          fits = subst (Fits (w * 16 + d)) k (one_more w d (8 - i) (omega arith) m g.fits);
          whole =
              ap (λ (j : ℕ). text_from j (w * 16 + d) (drop (i + 1) line)) (sym k)
              ∙ sym (a_digit (8 - i) w b d (drop (i + 1) line) (omega arith) f m)
              ∙ here;
        }

    pub line_fits : (d : ℕ) → digit_value b < 16 → d ≡ digit_value b → w * 16 + d < 4294967296
    line_fits d l e = let m : d < 16 = omega arith in fits_word (w * 16 + d) (8 - i - 1) (one_more w d (8 - i) (omega arith) m g.fits)

    pub line_breaks : (digit_value b < 16 → ⊥) → None ≡ text_words line
    line_breaks l = sym (other_byte (8 - i) w b (digit_in b) (drop (i + 1) line) (omega arith) refl ((meant b).other (omega arith))) ∙ here

  module _ (h : i ≡ 8) where
    last : text_from 0 w (get_or line 8 0 ∷ []) ≡ text_words line
    last =
        let k : 0 ≡ 8 - i = omega arith in
        ap (λ (j : ℕ). text_from j w (get_or line 8 0 ∷ [])) k
        ∙ ap (text_from (8 - i) w) (sym (ap (λ (j : ℕ). drop j line) h ∙ first_left line 8 (omega arith) ∙ ap (λ (l : List ℕ). get_or line 8 0 ∷ l) (drop_of_length-le line {i = 9} (omega arith))))
        ∙ g.whole

    pub line_end : get_or line 8 0 ≡ newline → Some (w ∷ []) ≡ text_words line
    unfolding text_from
    line_end e = sym (line_ends 0 w (get_or line 8 0) [] refl e) ∙ last

    pub line_other_end : (get_or line 8 0 ≡ newline → ⊥) → None ≡ text_words line
    line_other_end e = sym (line_goes_on 0 w (get_or line 8 0) [] refl e) ∙ last

-- ---- words of so many bytes each

before_before : (xs ys : List ℕ) (o : Option (List ℕ)) → before xs (before ys o) ≡ before (xs ++ ys) o
before_before xs ys None = refl
before_before xs ys (Some zs) = ap Some (sym (append_assoc xs ys zs))

before_nothing : (o : Option (List ℕ)) → before [] o ≡ o
before_nothing None = refl
before_nothing (Some zs) = refl

-- more bytes than so many words have are no reading of so many
pub over : (size : ℕ) (words : List ℕ → Option (List ℕ)) (counted : (bytes : List ℕ) → OfCount (λ (k : ℕ). length bytes ≡ size * k) (words bytes))
    (s : List ℕ) (n : ℕ) → size * n < length s → None ≡ at_most n (words s)
over size words counted s n h = by (words s) (counted s)
  where
    by : (o : Option (List ℕ)) → OfCount (λ (k : ℕ). length s ≡ size * k) o → None ≡ at_most n o
    by None k = refl
    by (Some ws) k = by_count (leb (length ws) n) refl
      where
        by_count : (t : Bool) → leb (length ws) n ≡ t → None ≡ pick t (Some ws) None
        by_count false f = refl
        by_count true f = let l : size * length ws ≤ size * n = mul-le-mul_left size (leb-true (length ws) n f) in absurd (omega arith)

-- n words stand in the buffer, and the rest is to be read
pub record PiecesRead (size : ℕ) (words : List ℕ → Option (List ℕ)) (s b : List ℕ) (n : ℕ) (rest : List ℕ) : Type 0 where
  pub room : n ≤ length b
  pub place : size * n + length rest ≡ length s
  pub whole : before (take n b) (words rest) ≡ words s

pub start : (size : ℕ) (words : List ℕ → Option (List ℕ)) (s b : List ℕ) → PiecesRead size words s b 0 s
start size words s b = record { room = omega arith; place = omega arith; whole = before_nothing (words s) }

module _ (size : ℕ) (words : List ℕ → Option (List ℕ)) (s b : List ℕ) (n : ℕ) (rest : List ℕ) (g : PiecesRead size words s b n rest) where
  module _ (joined : (bytes later : List ℕ) → length bytes ≡ size → words (bytes ++ later) ≡ both (words bytes) (words later))
      (bytes later : List ℕ) (front : bytes ≡ take size rest) (back : later ≡ drop size rest) (long : size ≤ length rest) where
    piece-length : length bytes ≡ size
    piece-length = ap length front ∙ length-take-le size rest long

    cut : both (words bytes) (words later) ≡ words rest
    cut =
        sym (joined bytes later piece-length)
        ∙ ap (λ (l : List ℕ). words (l ++ later)) front
        ∙ ap (λ (l : List ℕ). words (take size rest ++ l)) back
        ∙ ap words (take-append-drop size rest)

    -- a word is stored
    pub piece_more : (w : ℕ) → Some (w ∷ []) ≡ words bytes → n < length b → PiecesRead size words s (set b n w) (n + 1) later
    piece_more w e h =
        let l : length rest ≡ size + length later = omega (arith, ap length back, length-drop size rest) in
        let t : take (n + 1) (set b n w) ≡ take n b ++ (w ∷ []) = ap (λ (k : ℕ). take k (set b n w)) (add-one n) ∙ take-suc-set b n w h in
        record {
          room = omega (arith, length-set b n w);
          place = omega (arith, g.place);
          whole =
              ap (λ (l : List ℕ). before l (words later)) t
              ∙ sym (before_before (take n b) (w ∷ []) (words later))
              ∙ ap (λ (o : Option (List ℕ)). before (take n b) (both o (words later))) e
              ∙ ap (before (take n b)) cut
              ∙ g.whole;
        }

    -- bytes are no word
    pub piece_breaks : None ≡ words bytes → None ≡ words s
    piece_breaks e = ap (λ (o : Option (List ℕ)). before (take n b) (both o (words later))) e ∙ ap (before (take n b)) cut ∙ g.whole

  module _ (counted : (bytes : List ℕ) → OfCount (λ (k : ℕ). length bytes ≡ size * k) (words bytes)) where
    -- there is a word more than the buffer takes
    pub too_many : n ≡ length b → 0 < length rest → None ≡ at_most (length b) (words s)
    too_many e h = let m : size * n ≡ size * length b = ap (λ (j : ℕ). size * j) e in over size words counted s (length b) (omega (arith, g.place))

    -- fewer bytes are left than a word has
    pub piece_short : 0 < length rest → length rest < size → None ≡ words s
    piece_short h l = ap (before (take n b)) (by (words rest) (counted rest)) ∙ g.whole
      where
        by : (o : Option (List ℕ)) → OfCount (λ (k : ℕ). length rest ≡ size * k) o → None ≡ o
        by None k = refl
        by (Some []) k = absurd (omega arith)
        by (Some (w ∷ ws)) k =
            let m : size * 1 ≤ size * length (w ∷ ws) = mul-le-mul_left size (omega arith) in
            absurd (omega arith)

  -- all bytes are read
  pub all_read : words [] ≡ Some [] → length rest ≡ 0 → Some (take n b) ≡ at_most (length b) (words s)
  all_read nothing e =
      let w : Some (take n b) ≡ words s =
      ap Some (sym (append-nil (take n b))) ∙ ap (before (take n b)) (sym nothing ∙ ap words (sym (none_left rest e))) ∙ g.whole in
      let l : length (take n b) ≤ length b = omega (arith, length-take-le n b g.room, g.room) in
      let k : Some (take n b) ≡ at_most (length b) (Some (take n b)) = simp (le-leb (length (take n b)) (length b) l) in
      k ∙ ap (at_most (length b)) w
