-- The records of a sheet, for any state: what holds at the start, and is kept by each record that passes its test, holds at the end.
-- `Left` says what is known of the part of the sheet that is left, and stays so behind a record. By induction on the fuel.
use Prim.Native.Nat.{ℕ, suc, zero}
use mathlib.Core.Bool.{Bool, true, false}
use mathlib.Core.List.{List}
use mathlib.Core.Path.{◌≡◌, refl, subst}
use native.Mathlib.Omega.{arith}
use lib.Dec.{eqb}
use lib.ListN.{length}
use Rattle.definition.specs.Choice.{pick}
use Rattle.definition.specs.Sheet.{Record, record_at, after_record}
use Rattle.definition.specs.Tests.{Judged, refused, fit, judge, no_record, records}

fit_is : {S : Type 0} (P : S → Type 0) (s q : S) → P s → fit s ≡ fit q → P q
fit_is P s q h e = let f : s ≡ q = cc in subst P f h

never_fit : {S : Type 0} (n : ℕ) (q : S) → refused n ≡ fit q → ⊥
never_fit n q e = let z : ◌≡◌ {A = ℕ} 0 1 = cc in omega arith

module _ {S : Type 0} (test : S → Record → ℕ) (step : S → Record → S) (P : S → Type 0) (Left : List ℕ → Type 0) where
  past : (end None : Bool) (here : ℕ) (later : Judged S) (s q : S) → P s → (here ≡ 0 → later ≡ fit q → P q)
      → pick end (fit s) (pick None (refused 4) (judge here later)) ≡ fit q → P q
  past true None here later s q h k e = fit_is P s q h e
  past false true here later s q h k e = absurd (never_fit 4 q e)
  past false false zero later s q h k e = k refl e
  past false false (suc here) later s q h k e = absurd (never_fit (suc here) q e)

  pub records_kept : ((rest : List ℕ) → Left rest → Left (after_record rest))
      → ((rest : List ℕ) (s : S) → Left rest → test s (record_at rest) ≡ 0 → P s → P (step s (record_at rest)))
      → (fuel : ℕ) (rest : List ℕ) (s q : S) → Left rest → P s → records test step fuel rest s ≡ fit q → P q
  unfolding records
  records_kept behind keep zero rest s q l h e = fit_is P s q h e
  records_kept behind keep (suc fuel) rest s q l h e =
      let r = record_at rest in
      past (eqb (length rest) 0) (no_record rest) (test s r) (records test step fuel (after_record rest) (step s r)) s q h
      (λ t f. records_kept behind keep fuel (after_record rest) (step s r) q (behind rest l) (keep rest s l t h) f) e
