-- The OpCapability instructions, one a turn of the loop: the first i of them stand at the front of the buffer (`Listed`), and the
-- place behind them is 2 * i.
use Prim.Native.Nat.{ℕ, ◌+◌, ◌*◌, ◌≤◌, ◌<◌}
use mathlib.Core.Path.{◌≡◌, refl, sym, ap, ◌∙◌}
use mathlib.Core.List.{List, [], ◌∷◌, ◌++◌, append_assoc, append-nil}
use native.Mathlib.Numerals.{add-one}
use native.Mathlib.Omega.{arith}
use lib.ListN.{length, get_or, take}
use lib.Seq.{take-suc}
use Rattle.definition.specs.Instructions.{Instruction, words, capability, all_words}
use Rattle.definition.specs.State.{capability_instructions}
use Rattle.spirv.specs.Put.{Put}
use Rattle.spirv.proofs.Puts.{Begun, start, more, part, back, lent_count}

-- ---- their words

pub all_append : (is js : List Instruction) → all_words (is ++ js) ≡ all_words is ++ all_words js
unfolding all_words
all_append [] js = refl
all_append (i ∷ is) js = rw (all_append is js) (sym (append_assoc (words i) (all_words is) (all_words js)))

caps-append : (cs ds : List ℕ) → capability_instructions (cs ++ ds) ≡ capability_instructions cs ++ capability_instructions ds
unfolding capability_instructions
caps-append [] ds = refl
caps-append (c ∷ cs) ds = ap (λ (l : List Instruction). capability c ∷ l) (caps-append cs ds)

pub caps-length : (cs : List ℕ) → length (all_words (capability_instructions cs)) ≡ 2 * length cs
unfolding capability_instructions all_words words
caps-length [] = refl
caps-length (c ∷ cs) = omega (arith, caps-length cs)

-- one more of them
caps_more : (cs : List ℕ) (i : ℕ) → i < length cs → all_words (capability_instructions (take (i + 1) cs)) ≡ all_words (capability_instructions (take i cs)) ++ words (capability (get_or cs i 0))
unfolding all_words capability_instructions
caps_more cs i h =
    let c = get_or cs i 0 in
    rw (add-one, take-suc cs i 0 h, caps-append (take i cs) (c ∷ [])) (all_append (capability_instructions (take i cs)) (capability c ∷ []) ∙ rw append-nil)

-- ---- the loop

-- the first i stand at the front
pub record Listed (cs xs : List ℕ) (i : ℕ) (ys : List ℕ) (at : ℕ) : Type 0 where
  pub place : at ≡ 2 * i
  pub begun : Begun (all_words (capability_instructions (take i cs))) xs ys at

pub listed_start : (cs xs : List ℕ) → Listed cs xs 0 xs 0
unfolding capability_instructions all_words
listed_start cs xs = record { place = refl; begun = start xs }

module _ (cs xs : List ℕ) (i : ℕ) (ys : List ℕ) (at : ℕ) (l : Listed cs xs i ys at) where
  module _ (z : List ℕ) (m : ℕ) (h : i < length cs) (room : 2 * length cs ≤ length ys) (q : Put (words (capability (get_or cs i 0))) (part ys at) z m) where
    -- one more is two words,
    pub two : m ≡ 2
    unfolding words
    two = lent_count ys at (words (capability (get_or cs i 0))) z m q (omega (arith, l.place))

    -- and stands behind those before
    pub listed_more : length ys ≡ length xs → Listed cs xs (i + 1) (back ys at z) (at + m)
    unfolding words
    listed_more e = record {
      place = omega (arith, l.place, two);
      begun = rw (caps_more cs i h, two) (more _ (words (capability (get_or cs i 0))) xs ys z at m 2 l.begun q refl (omega (arith, l.place)));
    }
