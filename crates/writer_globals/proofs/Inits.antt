-- A global's init that is a null, from what the callees leave.
use Prim.Native.Nat.{ℕ}
use mathlib.Core.Path.{◌≡◌, sym, ap, ◌∙◌}
use mathlib.Core.Bool.{Bool, true}
use Rattle.std.specs.Prelude.{Option, Some, None}
use native.Mathlib.Omega.{arith}
use Rattle.definition.specs.Shapes.{entry}
use Rattle.definition.specs.Finding.{find, null_of}
use Rattle.definition.specs.Rules.{init_for}
use Rattle.writer.specs.declared.Writer.{Writer}
use Rattle.writer.specs.Cost.{no_cost}
use Rattle.writer.specs.Steps.{GotBy}
use Rattle.writer.proofs.Turns.{tail_then, tail_within}
use Rattle.finding.specs.Costs.{null_cost}
use Rattle.writer_globals.specs.Globals.{Initialised}

module _ (o : Option ℕ) (null : Bool) (t : ℕ) {w : Writer} where
  pub null_init : o ≡ None → null ≡ true → {i : ℕ} {v : Writer} → GotBy no_cost (find (entry t)) w i v
      → {z : ℕ} {u : Writer} → GotBy null_cost (null_of i) v z u → Initialised (init_for o null t) w (Some z) u
  null_init e n {i = i} p q = record {
    grown = omega (arith, p.grown, q.grown);
    tail = tail_within (omega arith) (tail_then p.grown p.tail q.tail);
    gives = λ s h.
        let g = p.gives s h in
        let u = find (entry t) s in
        let y = q.gives u.state g.held in
        let r : null_of i u.state ≡ null_of u.id u.state = ap (λ (k : ℕ). null_of k u.state) g.named in
        let c : init_for o null t s ≡ record { init = Some (null_of i u.state).id; state = (null_of i u.state).state } =
        (λ j. init_for (e j) (n j) t s) ∙ sym (λ j. record { init = Some (r j).id; state = (r j).state }) in
        rw c (record { named = ap Some y.named; held = y.held });
  }
