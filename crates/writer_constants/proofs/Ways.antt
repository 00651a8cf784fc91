-- The two ways out of finding a composite: it is there already, or a new id is taken, its type is found, its instruction is put
-- and it is entered. What is done before it is entered leaves the parts that wait where they are (`staged_still`).
use Prim.Native.Nat.{ℕ, ◌+◌}
use mathlib.Core.Path.{◌≡◌, refl, sym, ap, ◌∙◌, subst}
use mathlib.Core.List.{List}
use Rattle.std.specs.Prelude.{Option, Some, None}
use native.Mathlib.Omega.{arith}
use Rattle.definition.specs.Instructions.{constant_composite}
use Rattle.definition.specs.Shapes.{Key}
use Rattle.definition.specs.State.{State, composite}
use Rattle.definition.specs.Finding.{find, enter_composite, or_new_value, composite_of}
use Rattle.lookup.specs.Packed.{packed_key, Small}
use Rattle.writer.specs.declared.Writer.{Writer}
use Rattle.writer.specs.Regions.{declarations}
use Rattle.writer.specs.Held.{Held}
use Rattle.writer.specs.Steps.{GotBy, FoundBy, Took, FindsComposite, EnteredComposite, Puts, staged}
use Rattle.finding.specs.Costs.{cost_of}
use Rattle.writer.proofs.Staged.{staged_still}
use Rattle.writer.proofs.Turns.{state_got, found_old}
use Rattle.finding.proofs.Ways.{gives_new}
use Rattle.writer_constants.specs.Entered.{composite_cost}

module _ (k : Key) (small : Small k) {key : ℕ} (ek : key ≡ packed_key k) (n : ℕ) (w : Writer) (r : Option ℕ) (er : FindsComposite key n w r) where
  abbrev xs : List ℕ
  xs = staged n w

  sought : (o : Option ℕ) → r ≡ o → (s : State) → Held w s → composite_of k xs s ≡ or_new_value o find k (λ t id. constant_composite t id xs) (enter_composite (composite k xs)) s
  unfolding composite_of
  sought o e s h = ap (λ (p : Option ℕ). or_new_value p find k (λ t id. constant_composite t id xs) (enter_composite (composite k xs)) s) (sym (er (composite k xs) small ek refl s (w.sections.now, h)) ∙ e)

  pub composite_old : (id : ℕ) → r ≡ Some id → FoundBy (composite_cost k n) (composite_of k xs) w id w
  composite_old id e = found_old (composite_cost k n) (composite_of k xs) w id (sought (Some id) e)

  pub composite_new : r ≡ None → {id t : ℕ} {m x v u : Writer} → Took w id m → GotBy (cost_of k) (find k) m t x → Puts declarations (n + 3) (constant_composite t id (staged n x)) x v
      → EnteredComposite key n id v u → FoundBy (composite_cost k n) (composite_of k xs) w id u
  composite_new e {id = id} {t = t} {m = m} {x = x} {v = v} p q d y =
      let still : staged n x ≡ xs = staged_still n (state_got q) ∙ staged_still n p.kept in
      let put = subst (λ (ys : List ℕ). Puts declarations (n + 3) (constant_composite t id ys) x v) still d in
      record {
        grown = omega (arith, p.kept.grown, q.grown, d.kept.grown, y.grown);
        gives = gives_new (composite_of k xs) k (λ t id. constant_composite t id xs) (enter_composite (composite k xs)) (sought None e) p q put (y.held (composite k xs) small ek (staged_still n d.kept ∙ still));
      }
