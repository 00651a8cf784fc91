-- Reading a constant of the sheet.
use Prim.Native.Nat.{ℕ, zero, suc, ◌+◌, ◌*◌, ◌≤◌, ◌<◌}
use mathlib.Core.Path.{◌≡◌, refl, ap, ◌∙◌}
use mathlib.Core.List.{List, [], ◌∷◌, map}
use native.Mathlib.Omega.{arith}
use native.Mathlib.Nat.{not-suc-le-zero}
use lib.ListN.{get_or, drop}
use borrow.Author.Tests.{lt-ltb, le-ltb}
use Rattle.definition.specs.State.{Valued}
use Rattle.definition.specs.Rules.{no_value}
use Rattle.writer.specs.declared.Writer.{Writer}
use Rattle.writer.specs.declared.WrittenConstant.{WrittenConstant}
use Rattle.writer.specs.Rows.{TableRow, table_row, triple, table_rows}
use Rattle.writer.specs.Regions.{values_at}
use Rattle.writer.specs.Held.{Tables, value_row, AllKinds}
use Rattle.writer.specs.Steps.{IsValue, ValueAt}

no_row : TableRow
no_row = table_row 0 0 0

abbrev pub value_in : List ℕ → ℕ → WrittenConstant
value_in T p = record { id = get_or T p 0; ty = get_or T (p + 1) 0; kind = get_or T (p + 2) 0 }

abbrev pub nothing : WrittenConstant
nothing = record { id = 0; ty = 0; kind = 0 }

there : (T : List ℕ) (b n : ℕ) (vs : List Valued) → table_rows triple T b n ≡ map value_row vs → AllKinds vs → (c p : ℕ) → c < n → p ≡ b + 3 * c → IsValue (value_in T p) (get_or vs c no_value)
unfolding table_rows
there T b zero vs e k c p h q = absurd (not-suc-le-zero h)
there T b (suc n) [] e k c p h q = let z : ◌≡◌ {A = ℕ} 0 1 = cc in absurd (omega arith)
there T b (suc n) (v ∷ vs) e k zero p h q =
    let y : p ≡ b = omega arith in
    record {
      id = ap (λ (j : ℕ). get_or T j 0) y ∙ ap (λ (r : List TableRow). (get_or r 0 no_row).first) e;
      type = ap (λ (j : ℕ). get_or T (j + 1) 0) y ∙ ap (λ (r : List TableRow). (get_or r 0 no_row).second) e;
      kind = ap (λ (j : ℕ). get_or T (j + 2) 0) y ∙ ap (λ (r : List TableRow). (get_or r 0 no_row).id) e;
      small = k.0;
    }
there T b (suc n) (v ∷ vs) e k (suc c) p h q = there T (b + 3) n vs (ap (drop 1) e) k.1 c p (omega arith) (omega arith)

past : (T : List ℕ) (b n : ℕ) (vs : List Valued) → table_rows triple T b n ≡ map value_row vs → (c : ℕ) → n ≤ c → no_value ≡ get_or vs c no_value
unfolding table_rows
past T b zero [] e c h = refl
past T b zero (v ∷ vs) e c h = let z : ◌≡◌ {A = ℕ} 0 1 = cc in absurd (omega arith)
past T b (suc n) [] e c h = refl
past T b (suc n) (v ∷ vs) e zero h = absurd (not-suc-le-zero h)
past T b (suc n) (v ∷ vs) e (suc c) h = past T (b + 3) n vs (ap (drop 1) e) c (omega arith)

module _ (w : Writer) (c : ℕ) where
  pub value_there : c < w.used.values → ValueAt c w (value_in w.tables.now (values_at w.used + 3 * c))
  value_there h = record {
    named = rw (lt-ltb c w.used.values h);
    held = λ s y. there w.tables.now (values_at w.used) w.used.values s.constants.values (ap (λ (t : Tables). t.values) y.1.tables) y.1.small.kinds c (values_at w.used + 3 * c) h refl;
  }

  pub value_past : w.used.values ≤ c → ValueAt c w nothing
  value_past h = record {
    named = rw (le-ltb c w.used.values h);
    held = λ s y.
        let e = past w.tables.now (values_at w.used) w.used.values s.constants.values (ap (λ (t : Tables). t.values) y.1.tables) c h in
        rw (← e) (record { id = refl; type = refl; kind = refl; small = omega arith });
  }
