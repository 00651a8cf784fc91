-- The loop over the globals: what is put already, then what is left to put, is the whole. A turn moves one line from the second
-- to the first, and the loop is left where Wrapped refuses the index: there what is left is nothing.
use Prim.Native.Nat.{ℕ, zero, suc, ◌+◌, ◌*◌, ◌≤◌}
use mathlib.Core.Path.{◌≡◌, refl, sym, ap, ◌∙◌, subst}
use mathlib.Core.Bool.{Bool, true, false}
use mathlib.Core.List.{List, [], ◌++◌}
use native.Mathlib.Numerals.{add-one}
use native.Mathlib.Omega.{arith}
use lib.ListN.{length, length-append}
use lib.Seq.{sets, length-sets}
use Rattle.definition.specs.Tests.{Judged, globals_most}
use Rattle.definition.specs.Operations.{Progress, Wrapping, Wraps, wrapping_of, wrapped, verdict_of, check}
use Rattle.definition.specs.Operations.{Verdict as Meant}
use Rattle.std.specs.Prelude.{Result}
use Rattle.refusals.specs.declared.Refusal.{Refusal}
use Rattle.declarations.specs.Promise.{CheckPromise, verdict_as}
use Rattle.printing.specs.Text.{yes_or_no, PutText, Printed}
use Rattle.printing.proofs.Runs.{sets-append, printed}
use Rattle.printing.proofs.Long.{held, judged_held}
use Rattle.wrapped_main.specs.Answers.{line_and, answers_from, answers, text_of, answer_to}

-- up to a place the text has the lines of i globals, and those of `left` more are to come
pub record Begun (s before text : List ℕ) (at i left : ℕ) : Type 0 where
  pub globals : i + left ≡ 64
  pub place : at ≤ 4 * i
  pub size : length text ≡ length before
  pub whole : sets text at (answers_from s left i) ≡ sets before 0 (answers s)
  pub behind : at + length (answers_from s left i) ≡ length (answers s)

pub start : (s before : List ℕ) → Begun s before before 0 0 64
start s before = record { globals = refl; place = omega arith; size = refl; whole = refl; behind = omega arith }

line_short : (y : Bool) → length (yes_or_no y) ≤ 4
line_short true = omega arith
line_short false = omega arith

module _ (s before text : List ℕ) (at i left : ℕ) (b : Begun s before text at i left) where
  -- nothing is left
  ending : answers_from s left i ≡ [] → 256 ≤ length before → Printed (answers s) before text at
  ending e room =
      let t : text ≡ sets before 0 (answers s) = sym (ap (sets text at) e) ∙ b.whole in
      let l : at ≡ length (answers s) = omega (arith, b.behind, ap length e) in
      printed (answers s) before text at t l (omega (arith, b.globals, b.place))

  module _ (k : ℕ) (e : left ≡ suc k) where
    next : (w : Wrapping) → wrapped s i ≡ w → answers_from s left i ≡ line_and w (answers_from s k (i + 1))
    unfolding answers_from
    next w h =
        ap (λ (n : ℕ). answers_from s n i) e
        ∙ ap (λ (v : Wrapping). line_and v (answers_from s k (suc i))) h
        ∙ ap (λ (n : ℕ). line_and w (answers_from s k n)) (sym (add-one i))

    -- a turn
    pub more : (y : Bool) (text' : List ℕ) (at' : ℕ) → wrapped s i ≡ Wraps y → PutText (yes_or_no y) text at text' at' → Begun s before text' at' (i + 1) k
    more y text' at' h p =
        let rest = answers_from s k (i + 1) in
        let q : answers_from s left i ≡ yes_or_no y ++ rest = next (Wraps y) h in
        record {
          globals = omega (arith, b.globals);
          place = omega (arith, b.place, p.next, line_short y);
          size = ap length p.text ∙ length-sets text at (yes_or_no y) ∙ b.size;
          whole =
              ap (λ (z : List ℕ). sets z at' rest) p.text
              ∙ ap (λ (n : ℕ). sets (sets text at (yes_or_no y)) n rest) p.next
              ∙ sym (sets-append text at (yes_or_no y) rest)
              ∙ sym (ap (sets text at) q)
              ∙ b.whole;
          behind = omega (arith, p.next, b.behind, ap length q ∙ length-append (yes_or_no y) rest);
        }

    -- no such global
    pub stop : (n : ℕ) → wrapped s i ≡ Wrapping.Refused n → 256 ≤ length before → Printed (answers s) before text at
    stop n h room = ending (next (Wrapping.Refused n) h) room

  -- all have been asked for
  pub done : left ≡ 0 → 256 ≤ length before → Printed (answers s) before text at
  unfolding answers_from
  done e room = ending (ap (λ (n : ℕ). answers_from s n i) e) room

-- ---- what Check answered decides what is printed

pub decided : (s before after : List ℕ) (r : ℕ) (v w : Result (Unit {0}) Refusal) → CheckPromise s v → v ≡ w → Printed (text_of (verdict_as w) (answers s)) before after r
    → Printed (answer_to s) before after r
decided s before after r v w p e h =
    subst (λ (m : Meant). Printed (text_of m (answers s)) before after r) (sym (ap verdict_as e) ∙ p.same) h

-- ---- the bytes that the program holds of a sheet decide the answer

from_held : (s : List ℕ) (k i : ℕ) → answers_from (held s) k i ≡ answers_from s k i
unfolding answers_from wrapped
from_held s zero i = refl
from_held s (suc k) i =
    ap (λ (j : Judged Progress). line_and (wrapping_of i j) (answers_from (held s) k (suc i))) (judged_held s)
    ∙ ap (line_and (wrapped s i)) (from_held s k (suc i))

pub answer_held : (s : List ℕ) → answer_to (held s) ≡ answer_to s
unfolding check
answer_held s =
    ap (λ (j : Judged Progress). text_of (verdict_of j) (answers (held s))) (judged_held s) ∙ ap (text_of (check s)) (from_held s globals_most 0)
