-- A body's words one after the other: a chunk of four bytes is the next word, and where fewer than four are left, all whole words
-- are behind.
use Rattle.std.proofs.Common.{◌≡◌, ℕ, ◌+◌, ◌*◌, ◌/◌, ◌<◌, ◌≤◌, List, ◌++◌, length, get_or, drop, refl, sym, ap, ap₂, ◌∙◌, add-one, add-zero, arith, length-append, length-drop, get_or-drop}
use lib.ListN.{get_or-append}
use lib.Seq.{drop-append_seam, drop-drop}
use Rattle.definition.specs.Bytes.{u16_at, u32_at}
use Rattle.sheet.specs.Hash.{hash_step, hash_words}

-- h is the hash of the first words of b, behind t, and rest is what stands behind them
pub record Hashing (b : List ℕ) (t h : ℕ) (rest : List ℕ) : Type 0 where
  pub words : ℕ
  pub within : 4 * words ≤ length b
  pub behind : rest ≡ drop (4 * words) b
  pub hashed : h ≡ hash_words b t words

-- the number in the first four bytes of a list that b has at p
same_word : (b x more : List ℕ) (p : ℕ) → drop p b ≡ x ++ more → length x ≡ 4 → u32_at x 0 ≡ u32_at b p
unfolding u32_at u16_at
same_word b x more p e l =
    let at : (j : ℕ) → j < 4 → get_or x j 0 ≡ get_or b (p + j) 0 = λ j lt. sym (get_or-append x more 0 j (omega arith)) ∙ ap (λ (m : List ℕ). get_or m j 0) (sym e) ∙ get_or-drop p b j 0 in
    let two : p + 2 + 1 ≡ p + 3 = omega arith in
    omega (arith, at 0 (omega arith), at 1 (omega arith), at 2 (omega arith), at 3 (omega arith), ap (λ (j : ℕ). get_or b j 0) (add-zero p), ap (λ (j : ℕ). get_or b j 0) two)

drop_more : (b x more : List ℕ) (p q : ℕ) → drop p b ≡ x ++ more → length x ≡ 4 → q ≡ p + 4 → more ≡ drop q b
drop_more b x more p q e l eq = sym (drop-append_seam x more) ∙ (λ j. drop (l j) (sym e j)) ∙ drop-drop 4 p b ∙ ap (λ (j : ℕ). drop j b) (sym eq)

module _ (b : List ℕ) (t h : ℕ) (rest : List ℕ) (g : Hashing b t h rest) where
  pub a_word : (x more : List ℕ) → rest ≡ x ++ more → length x ≡ 4 → (w r : ℕ) → w ≡ u32_at x 0 → r ≡ hash_step h w → Hashing b t r more
  unfolding hash_words
  a_word x more e l w r ew er =
      let d : drop (4 * g.words) b ≡ x ++ more = sym g.behind ∙ e in
      let n : length b ≡ 4 * g.words + length (drop (4 * g.words) b) = omega (arith, length-drop (4 * g.words) b, g.within) in
      record {
        words = g.words + 1;
        within = omega (arith, n, ap length d, length-append x more, l);
        behind = drop_more b x more (4 * g.words) (4 * (g.words + 1)) d l (omega arith);
        hashed = rw add-one (er ∙ ap₂ hash_step g.hashed (ew ∙ same_word b x more (4 * g.words) d l));
      }

  pub the_last : length rest < 4 → (p w r : ℕ) → p ≡ length b / 4 * 4 → w ≡ u32_at b p → r ≡ hash_step h w → r ≡ hash_words b t (length b / 4 + 1)
  unfolding hash_words
  the_last lt p w r ep ew er =
      let k : length b / 4 ≡ g.words = omega (arith, length-drop (4 * g.words) b, ap length g.behind, g.within, lt) in
      let q : p ≡ 4 * g.words = omega (arith, k, ep) in
      rw (add-one, k) (er ∙ ap₂ hash_step g.hashed (ew ∙ ap (u32_at b) q))

pub none_yet : (b : List ℕ) (t : ℕ) → Hashing b t t b
unfolding hash_words
none_yet b t = record { words = 0; within = omega arith; behind = refl; hashed = refl }
