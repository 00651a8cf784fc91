-- The loop that puts a list's lines: what stands in the text, then the text of the words that are left, is the whole. A turn puts
-- one word with what ends it, nine bytes.
use Prim.Native.Nat.{ℕ, ◌+◌, ◌*◌, ◌≤◌, ◌<◌}
use mathlib.Core.Path.{◌≡◌, refl, sym, ap, ◌∙◌}
use mathlib.Core.List.{List, [], ◌∷◌, ◌++◌}
use native.Mathlib.Numerals.{add-one}
use native.Mathlib.Omega.{arith}
use lib.ListN.{length, get_or, drop, length-append, drop_of_length-le}
use lib.Seq.{sets, length-sets, drop-cons}
use Rattle.printing.specs.Text.{Printed}
use Rattle.printing.proofs.Lines.{digits-length}
use Rattle.printing.proofs.Runs.{sets-append, printed}
use Rattle.list_main.specs.Answers.{following, word_text, lines_from, list_text}

word-length : (w k : ℕ) → length (word_text w k) ≡ 9
word-length w k = simp length-append (omega (arith, digits-length 16 8 w))

lines-length : (k : ℕ) (ws : List ℕ) → length (lines_from k ws) ≡ 9 * length ws
unfolding lines_from
lines-length k [] = refl
lines-length k (w ∷ ws) =
    let m = following k ws in
    length-append (word_text w m) (lines_from m ws) ∙ omega (arith, word-length w m, lines-length m ws)

one_word : (k m i : ℕ) (ws : List ℕ) → i < length ws → m ≡ following k (drop (i + 1) ws)
    → lines_from k (drop i ws) ≡ word_text (get_or ws i 0) m ++ lines_from m (drop (i + 1) ws)
unfolding lines_from
one_word k m i ws h e =
    let d : drop i ws ≡ get_or ws i 0 ∷ drop (i + 1) ws = rw (add-one, drop-cons ws i 0) in
    ap (lines_from k) d ∙ ap (λ (j : ℕ). word_text (get_or ws i 0) j ++ lines_from j (drop (i + 1) ws)) (sym e)

-- up to word i the text has what is printed of the list, and k words are left on the line
pub record Begun (ws before text : List ℕ) (k i : ℕ) : Type 0 where
  pub within : i ≤ length ws
  pub size : length text ≡ length before
  pub whole : sets text (9 * i) (lines_from k (drop i ws)) ≡ sets before 0 (list_text ws)

pub start : (ws before : List ℕ) → Begun ws before before 5 0
start ws before = record { within = omega arith; size = refl; whole = refl }

module _ (ws before text : List ℕ) (k i : ℕ) (b : Begun ws before text k i) where
  -- a turn
  pub more : (m : ℕ) (text' : List ℕ) → i < length ws → m ≡ following k (drop (i + 1) ws) → text' ≡ sets text (9 * i) (word_text (get_or ws i 0) m)
      → Begun ws before text' m (i + 1)
  more m text' h e t =
      let v = word_text (get_or ws i 0) m in
      let later = lines_from m (drop (i + 1) ws) in
      let p : 9 * (i + 1) ≡ 9 * i + length v = omega (arith, word-length (get_or ws i 0) m) in
      record {
        within = omega arith;
        size = ap length t ∙ length-sets text (9 * i) v ∙ b.size;
        whole =
            ap (λ (z : List ℕ). sets z (9 * (i + 1)) later) t
            ∙ ap (λ (j : ℕ). sets (sets text (9 * i) v) j later) p
            ∙ sym (sets-append text (9 * i) v later)
            ∙ ap (sets text (9 * i)) (sym (one_word k m i ws h e))
            ∙ b.whole;
      }

  -- all words are put
  pub done : i ≡ length ws → 9 * length ws ≤ length before → Printed (list_text ws) before text (9 * i)
  unfolding lines_from
  done e room =
      let h : length ws ≤ i = omega arith in
      let t : text ≡ sets before 0 (list_text ws) =
      ap (λ (l : List ℕ). sets text (9 * i) (lines_from k l)) (sym (drop_of_length-le ws h)) ∙ b.whole in
      printed (list_text ws) before text (9 * i) t (omega (arith, lines-length 5 ws)) (omega arith)
