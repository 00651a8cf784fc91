-- The loop over the records, for any state: what is left, judged from the state held now, is what the whole sheet is
-- judged to be. A law for each way out of the loop (the end, test 4, a refusal) and one for a turn.
use Prim.Native.Nat.{ℕ, zero, suc, ◌+◌, ◌-◌, ◌≤◌, ◌<◌}
use mathlib.Core.Path.{◌≡◌, refl, ap, sym, ◌∙◌}
use mathlib.Core.Bool.{true, false}
use mathlib.Core.List.{List}
use native.Mathlib.Omega.{arith}
use borrow.Author.Tests.{eq-eqb, ne_eqb}
use lib.ListN.{length, drop, length-drop}
use Rattle.definition.specs.Bytes.{u16_at}
use Rattle.definition.specs.Sheet.{Record, record_at, after_record}
use Rattle.definition.specs.Tests.{Judged, judge, no_record, records}
use Rattle.definition.specs.Tests.Judged.{fit, refused}
use Rattle.records.proofs.Places.{whole, behind}

pub judge_stop : {S : Type 0} (h d : ℕ) (x : Judged S) → h ≡ d → (h ≡ 0 → ⊥) → refused h ≡ judge d x
judge_stop zero d x e f = absurd (f refl)
judge_stop (suc h) d x e f = simp (← e)

pub judge_go : {S : Type 0} (d : ℕ) (x : Judged S) → d ≡ 0 → judge d x ≡ x
judge_go d x e = simp e

module _ {S : Type 0} (test : S → Record → ℕ) (step : S → Record → S) where
  -- the sheet s from the place `at` on, in the state n, is judged to be w
  pub record Going (w : Judged S) (s : List ℕ) (at : ℕ) (n : S) : Type 0 where
    pub fuel : ℕ
    pub enough : length s - at ≤ fuel
    pub same : w ≡ records test step fuel (drop at s) n
    pub inside : at ≤ length s

  module _ (rest : List ℕ) (n : S) where
    at_end : (f : ℕ) → length rest ≡ 0 → records test step f rest n ≡ fit n
    unfolding records
    at_end zero h = refl
    at_end (suc f) h = simp (eq-eqb (length rest) 0 h)

    at_none : (f : ℕ) → 0 < length rest → length rest ≤ f → no_record rest ≡ true → records test step f rest n ≡ refused 4
    unfolding records
    at_none zero l h e = absurd (omega arith)
    at_none (suc f) l h e = simp (ne_eqb (length rest) 0 (omega arith), e)

    at_one : (f : ℕ) → 0 < length rest → length rest ≤ f → no_record rest ≡ false
        → (g : ℕ) × (length rest ≤ suc g) × (records test step f rest n ≡ judge (test n (record_at rest)) (records test step g (after_record rest) (step n (record_at rest))))
    unfolding records
    at_one zero l h e = absurd (omega arith)
    at_one (suc f) l h e = (f, h, simp (ne_eqb (length rest) 0 (omega arith), e))

  pub start : (s : List ℕ) (at : ℕ) (n : S) → at ≤ length s → Going (records test step (length s) (drop at s) n) s at n
  start s at n h = record { fuel = length s; enough = omega arith; same = refl; inside = h }

  module _ (w : Judged S) (s : List ℕ) (at : ℕ) (n : S) (h : Going w s at n) where
    pub ends_fit : length s ≤ at → fit n ≡ w
    ends_fit l = sym (h.same ∙ at_end (drop at s) n h.fuel (simp length-drop (omega arith)))

    module _ (lt : at < length s) where
      abbrev left : List ℕ
      left = drop at s

      some_left : 0 < length (drop at s)
      some_left = simp length-drop (omega arith)

      enough_left : length (drop at s) ≤ h.fuel
      enough_left = simp length-drop h.enough

      pub ends_four : no_record (drop at s) ≡ true → refused 4 ≡ w
      ends_four e = sym (h.same ∙ at_none left n h.fuel some_left enough_left e)

      module _ (e : no_record (drop at s) ≡ false) where
        pub ends_refused : (r : ℕ) → r ≡ test n (record_at (drop at s)) → (r ≡ 0 → ⊥) → refused r ≡ w
        ends_refused r q f = judge_stop r _ _ q f ∙ sym (h.same ∙ (at_one left n h.fuel some_left enough_left e).2)

        -- the next record stands inside the sheet
        pub next_inside : at + (2 + u16_at (drop at s) 0) ≤ length s
        next_inside = let z = whole left e in omega (arith, z.1, length-drop at s)

        pub goes_on : test n (record_at (drop at s)) ≡ 0 → Going w s (at + (2 + u16_at (drop at s) 0)) (step n (record_at (drop at s)))
        goes_on z =
            let k = at_one left n h.fuel some_left enough_left e in
            let q = whole left e in
            record {
              fuel = k.0;
              enough = omega (arith, k.1, length-drop at s, q.0);
              same = h.same ∙ k.2 ∙ judge_go _ _ z ∙ ap (λ (r : List ℕ). records test step k.0 r (step n (record_at left))) (sym (behind s at));
              inside = next_inside;
            }
