-- The promise from one equation with the definition (`promised`), and that equation for each answer: 18 (`no_front`), 19 or 20
-- (`faulty`), 16 (`too_short`), the list (`listed`).
use Prim.Native.Nat.{ℕ, ◌+◌, ◌≤◌, ◌<◌}
use mathlib.Core.Path.{◌≡◌, refl, sym, ap, ◌∙◌, subst}
use mathlib.Core.Bool.{true, false}
use mathlib.Core.Logic.{◌⊎◌, inl, inr}
use mathlib.Core.List.{List, ◌++◌}
use native.Mathlib.Omega.{arith}
use borrow.Author.Tests.{le-leb, lt-leb, leb-true}
use lib.Dec.{leb}
use lib.ListN.{length, take, drop, length-append}
use lib.Seq.{take_at, length-take-le}
use Rattle.definition.specs.Instructions.{put}
use Rattle.definition.specs.Tests.{Judged, refused, fit}
use Rattle.definition.specs.Listing.{Relisted, relisted_of, ahead, list_from, is_front, front_test, list_of, list, join, HasList, WholeList, Unlisted}
use Rattle.definition.specs.Listing.{Listing as Meant}
use Rattle.definition.proofs.Truth.{both}
use Rattle.definition.proofs.Relisting.{joins, takes_written, list_answers}
use Rattle.spirv.specs.Sections.{splice}
use Rattle.spirv.proofs.Splices.{splice-length, splice-splice}
use Rattle.std.specs.Prelude.{Result, Err}
use Rattle.refusals.specs.declared.Refusal.{Refusal}
use Rattle.refusals.specs.declared.Refusal.TheVariants.{BufferLength, ModuleFront}
use Rattle.refusals.specs.Numbers.{number_of}
use Rattle.listing.specs.Lists.{length_of, Walked}
use Rattle.listing.specs.Promise.{listing_as, relisted_as, ListPromise}

-- ---- words put at a buffer's front

put_front : (xs b : List ℕ) → length xs ≤ length b → put xs b ≡ splice b 0 xs
unfolding put
put_front xs b h = let q : 0 + length xs ≡ length xs = omega arith in rw (le-leb (length xs) (length b) h, q)

-- ---- the promise

module _ (ws b : List ℕ) where
  -- the list at the buffer's front, joined
  joined : (d : Relisted) (n : ℕ) → WholeList ws b d ⊎ Unlisted b d → d.answer ≡ Meant.Listed n → join (take n d.buffer) ≡ ws
  joined d n (inl w) e =
      let q : length w.whole ≡ n = cc in
      rw (w.buffer, take_at w.whole (drop (length w.whole) b) n q) (joins ws w.whole w.lists)
  joined d n (inr u) e = let z : ◌≡◌ {A = ℕ} 0 1 = cc in absurd (omega arith)

  pub promised : (r : Result ℕ Refusal) (after : List ℕ) → relisted_as r after ≡ list ws b → ListPromise ws b r after
  promised r after e =
      let a = subst (λ (d : Relisted). WholeList ws b d ⊎ Unlisted b d) (sym e) (list_answers ws b) in
      record {
        answered = a;
        same = e;
        joins = λ n q. joined (relisted_as r after) n a q;
        takes = λ s b' bytes n bound w q. subst HasList (sym q) (takes_written s b' bytes n bound w);
      }

  -- ---- each answer

  pub no_front : is_front ws ≡ false → relisted_as (Err ModuleFront) b ≡ list ws b
  unfolding list list_of front_test
  no_front e = rw e

  module _ (e : is_front ws ≡ true) where
    pub five_words : 5 ≤ length ws
    five_words = leb-true 5 (length ws) (both (leb 5 (length ws)) _ e).0

    passes : list ws b ≡ relisted_of b (ahead (take 5 ws) (list_from 5 ws))
    unfolding list list_of front_test
    passes = rw e

    -- the definition's, by what the instructions come to
    pub faulty : (r : Refusal) → Meant.Refused (number_of r) ≡ length_of (list_from 5 ws) → relisted_as (Err r) b ≡ list ws b
    faulty r f = go (list_from 5 ws) refl f ∙ sym passes
      where
        go : (j : Judged (List ℕ)) → list_from 5 ws ≡ j → Meant.Refused (number_of r) ≡ length_of j → relisted_as (Err r) b ≡ relisted_of b (ahead (take 5 ws) (list_from 5 ws))
        go (refused m) q f = let y : number_of r ≡ m = cc in rw (q, y)
        go (fit l) q f = let y : ◌≡◌ {A = ℕ} 0 1 = cc in absurd (omega arith)

    head-length : (l : List ℕ) → length (take 5 ws ++ l) ≡ 5 + length l
    head-length l = simp (length-append, length-take-le 5 ws five_words)

    pub too_short : (n : ℕ) → Meant.Listed n ≡ length_of (list_from 5 ws) → length b < n → relisted_as (Err BufferLength) b ≡ list ws b
    too_short n f h = go (list_from 5 ws) refl f ∙ sym passes
      where
        go : (j : Judged (List ℕ)) → list_from 5 ws ≡ j → Meant.Listed n ≡ length_of j → relisted_as (Err BufferLength) b ≡ relisted_of b (ahead (take 5 ws) (list_from 5 ws))
        go (refused m) q f = let y : ◌≡◌ {A = ℕ} 0 1 = cc in absurd (omega arith)
        go (fit l) q f =
            let y : n ≡ 5 + length l = cc in
            rw (q, lt-leb (length (take 5 ws ++ l)) (length b) (omega (arith, head-length l)))

    pub listed : (n : ℕ) → Meant.Listed n ≡ length_of (list_from 5 ws) → n ≤ length b → (r : Result ℕ Refusal) (after : List ℕ) → Walked ws (put (take 5 ws) b) r after → relisted_as r after ≡ list ws b
    listed n f h r after w = go (list_from 5 ws) refl f ∙ sym passes
      where
        go : (j : Judged (List ℕ)) → list_from 5 ws ≡ j → Meant.Listed n ≡ length_of j → relisted_as r after ≡ relisted_of b (ahead (take 5 ws) (list_from 5 ws))
        go (refused m) q f = let y : ◌≡◌ {A = ℕ} 0 1 = cc in absurd (omega arith)
        go (fit l) q f =
            let y : n ≡ 5 + length l = cc in
            let five = length-take-le 5 ws five_words in
            let a : listing_as r ≡ Meant.Listed (length (take 5 ws ++ l)) = w.answer ∙ rw (q, head-length l) in
            let p = put_front (take 5 ws) b (omega arith) in
            let k : length (put (take 5 ws) b) ≡ length b = ap length p ∙ splice-length b 0 (take 5 ws) (omega arith) in
            let s : after ≡ put (take 5 ws ++ l) b =
            w.put l q (omega arith) ∙ ap (λ (x : List ℕ). splice x 5 l) p
            ∙ splice-splice b 0 (take 5 ws) 5 l (omega arith) (omega arith)
            ∙ sym (put_front (take 5 ws ++ l) b (omega (arith, head-length l))) in
            rw (a, s, q, le-leb (length (take 5 ws ++ l)) (length b) (omega (arith, head-length l)))
