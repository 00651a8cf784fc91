-- An instruction's words from its parts: a head, and what is put behind it. The word count in the head is that of the whole, so
-- the two joined are the instruction's words.
use Prim.Native.Nat.{ℕ, suc, ◌+◌, ◌*◌, ◌≤◌, ◌<◌}
use mathlib.Core.Path.{◌≡◌, refl, ap, subst}
use mathlib.Core.List.{List, [], ◌∷◌}
use native.Mathlib.Nat.{not-suc-le-zero}
use native.Mathlib.Omega.{arith}
use lib.ListN.{length, get_or, drop}
use Rattle.definition.specs.Instructions.{words, plain, type_op, value_op}
use Rattle.spirv.specs.Put.{Put}
use Rattle.spirv.specs.Heads.{head}
use Rattle.spirv.proofs.Puts.{nothing}

-- the word count counts the first word and all operands
head_words : (op n : ℕ) (xs : List ℕ) → n ≡ length xs + 1 → head n op xs ≡ words (plain op xs)
unfolding words
head_words op n xs e = let c : n ≡ suc (length xs) = omega arith in ap (λ (k : ℕ). (65536 * k + op) ∷ xs) c

type_words : (op : ℕ) (xs : List ℕ) → 1 ≤ length xs → words (plain op xs) ≡ words (type_op op (get_or xs 0 0) (drop 1 xs))
unfolding words
type_words op [] h = absurd (not-suc-le-zero h)
type_words op (x ∷ xs) h = refl

value_words : (op : ℕ) (xs : List ℕ) → 2 ≤ length xs → words (plain op xs) ≡ words (value_op op (get_or xs 0 0) (get_or xs 1 0) (drop 2 xs))
unfolding words
value_words op [] h = absurd (not-suc-le-zero h)
value_words op (x ∷ []) h = absurd (omega arith)
value_words op (x ∷ (y ∷ xs)) h = refl

-- what was put, by another name
module _ {before after : List ℕ} {k : ℕ} (op : ℕ) (xs : List ℕ) where
  pub as_plain : (n : ℕ) → n ≡ length xs + 1 → Put (head n op xs) before after k → Put (words (plain op xs)) before after k
  as_plain n e p = subst (λ (ws : List ℕ). Put ws before after k) (head_words op n xs e) p

  pub as_type : 1 ≤ length xs → Put (words (plain op xs)) before after k → Put (words (type_op op (get_or xs 0 0) (drop 1 xs))) before after k
  as_type h p = subst (λ (ws : List ℕ). Put ws before after k) (type_words op xs h) p

  pub as_value : 2 ≤ length xs → Put (words (plain op xs)) before after k → Put (words (value_op op (get_or xs 0 0) (get_or xs 1 0) (drop 2 xs))) before after k
  as_value h p = subst (λ (ws : List ℕ). Put ws before after k) (value_words op xs h) p

-- nothing was put
pub no_room : (op n : ℕ) (xs before : List ℕ) → n ≡ length xs + 1 → length before < n → Put (words (plain op xs)) before before 0
no_room op n xs before e h = as_plain op xs n e (nothing (head n op xs) before (omega arith))
