-- The walk over the instructions. The invariant (`Walking`): what is listed so far, put ahead of what the rest comes to, is what the whole
-- comes to; it stands in the buffer as long as its end lies within. A turn passes both tests and adds one list (`walking_more`), or is
-- refused (`walking_refused`); when nothing is left the list is whole (`walking_all`).
use Prim.Native.Nat.{ℕ, zero, suc, ◌+◌, ◌*◌, ◌-◌, ◌/◌, ◌%◌, ◌≤◌, ◌<◌}
use mathlib.Core.Path.{◌≡◌, refl, sym, ap, ◌∙◌}
use mathlib.Core.List.{List, [], ◌∷◌, ◌++◌, append_assoc, append-nil}
use native.Mathlib.Omega.{arith}
use lib.ListN.{length, take, drop, length-append, length-drop}
use lib.Seq.{length-take-le}
use Rattle.definition.specs.Tests.{Judged, refused, fit, judge}
use Rattle.definition.specs.Listing.{list_body, instruction_test, ahead, list_from}
use Rattle.definition.proofs.Relisting.{list_past, length_listed, Passed, tests_say}
use Rattle.spirv.specs.Sections.{splice}
use Rattle.spirv.proofs.Splices.{splice_none, splice-splice}
use Rattle.std.specs.Prelude.{Ok, Err}
use Rattle.refusals.specs.declared.Refusal.{Refusal}
use Rattle.refusals.specs.Numbers.{number_of}
use Rattle.refusals.proofs.Tests.{not_zero}
use Rattle.listing.specs.Forms.{instruction_refusal}
use Rattle.listing.specs.Lists.{ListedWith, PutAt, Walked}

-- ---- lists ahead of what is judged

ahead_none : (j : Judged (List ℕ)) → ahead [] j ≡ j
ahead_none (refused n) = refl
ahead_none (fit l) = refl

ahead_both : (xs ys : List ℕ) (j : Judged (List ℕ)) → ahead xs (ahead ys j) ≡ ahead (xs ++ ys) j
ahead_both xs ys (refused n) = refl
ahead_both xs ys (fit l) = ap fit (sym (append_assoc xs ys l))

-- ---- one turn, by the definition: the first word's opcode and count, the words behind it, and the refusal

module _ (w : ℕ) (behind : List ℕ) where
  abbrev pub op : ℕ
  op = w % 65536

  abbrev pub count : ℕ
  count = w / 65536

  abbrev pub body : List ℕ
  body = take (count - 1) behind

  abbrev pub later : List ℕ
  later = drop (count - 1) behind

  abbrev pub refusal : ℕ
  refusal = instruction_refusal op count (suc (length behind))

  turn : list_from 0 (w ∷ behind) ≡ judge refusal (ahead (list_body op body) (list_from 0 later))
  unfolding list_from instruction_test
  turn = ap (λ (j : Judged (List ℕ)). judge refusal (ahead (list_body op body) j)) (list_past (count - 1) behind)

  module _ (e : refusal ≡ 0) where
    passed : Passed w (length behind)
    unfolding instruction_test
    passed = tests_say w (length behind) e

    pub some_words : 1 ≤ count
    some_words = passed.some_words

    pub ends_inside : count ≤ suc (length behind)
    ends_inside = passed.inside

    body-length : suc (length body) ≡ count
    body-length = ap suc (length-take-le (count - 1) behind (omega (arith, passed.inside))) ∙ omega (arith, some_words)

    pub body_listed : w < 4294967296 → ListedWith op body
    body_listed small = record { written = rw body-length passed.written; few = omega (arith, body-length) }

    turn_passed : list_from 0 (w ∷ behind) ≡ ahead (list_body op body) (list_from 0 later)
    turn_passed = turn ∙ rw e

-- ---- the loop

pub record Walking (ws b rest : List ℕ) (to : ℕ) (out : List ℕ) : Type 0 where
  pub front : List ℕ
  pub came : list_from 5 ws ≡ ahead front (list_from 0 rest)
  pub place : to ≡ 5 + length front
  pub few : to + 3 * length rest ≤ 3 * length ws
  pub put : to ≤ length b → out ≡ splice b 5 front

pub walking_start : (ws b : List ℕ) → 5 ≤ length ws → Walking ws b (drop 5 ws) 5 b
walking_start ws b h = record {
  front = [];
  came = list_past 5 ws ∙ sym (ahead_none (list_from 0 (drop 5 ws)));
  place = refl;
  few = omega (arith, length-drop 5 ws);
  put = λ r. splice_none b 5;
}

module _ (ws b : List ℕ) (w : ℕ) (behind : List ℕ) (to : ℕ) (out : List ℕ) (k : Walking ws b (w ∷ behind) to out) where
  pub walking_more : refusal w behind ≡ 0 → (out' : List ℕ) (to' : ℕ) → length out ≡ length b
      → PutAt to (list_body (op w behind) (body w behind)) out out' to' → Walking ws b (later w behind) to' out'
  walking_more e out' to' l p =
      let xs = list_body (op w behind) (body w behind) in
      let n = some_words w behind e in
      record {
        front = k.front ++ xs;
        came = k.came ∙ ap (ahead k.front) (turn_passed w behind e) ∙ ahead_both k.front xs (list_from 0 (later w behind));
        place = p.place ∙ simp (length-append, k.place) (omega arith);
        few = omega (arith, k.few, p.place, length_listed (op w behind) (body w behind), body-length w behind e, ends_inside w behind e, length-drop (count w behind - 1) behind);
        put = λ r. p.put (omega (arith, r, l)) ∙ ap (λ (o : List ℕ). splice o to xs) (k.put (omega (arith, r, p.place))) ∙ splice-splice b 5 k.front to xs k.place (omega (arith, r, p.place));
      }

  pub walking_refused : (r : Refusal) → number_of r ≡ refusal w behind → Walked ws b (Err r) out
  walking_refused r e =
      let n = number_of r in
      let s : list_from 5 ws ≡ refused n = k.came ∙ ap (ahead k.front) (turn w behind ∙ stops _ n (refusal w behind) e (not_zero r)) in
      record { answer = rw s; put = λ l f q. no_list _ n l s f }
    where
      stops : (j : Judged (List ℕ)) (n here : ℕ) → n ≡ here → (n ≡ 0 → ⊥) → judge here j ≡ refused n
      stops j zero here e z = absurd (z refl)
      stops j (suc n) here e z = rw (← e)

      no_list : {A : Type 0} (j : Judged (List ℕ)) (n : ℕ) (l : List ℕ) → j ≡ refused n → j ≡ fit l → A
      no_list j n l a f = let y : ◌≡◌ {A = ℕ} 0 1 = cc in absurd (omega arith)

pub walking_all : (ws b rest : List ℕ) (to : ℕ) (out : List ℕ) → Walking ws b rest to out → length rest ≡ 0 → Walked ws b (Ok to) out
unfolding list_from
walking_all ws b [] to out k h =
    let e : list_from 5 ws ≡ fit k.front = k.came ∙ ap fit (append-nil k.front) in
    record {
      answer = rw (e, k.place);
      put = λ l f r. let q : k.front ≡ l = cc in k.put (omega (arith, k.place, r, ap length q)) ∙ ap (splice b 5) q;
    }
walking_all ws b (w ∷ rest) to out k h = absurd (omega (arith, h))
