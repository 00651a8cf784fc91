-- The two ways out of finding what is shared by ids, each from what the callees leave: it is there already, or a new id is taken, its
-- instruction is put and it is entered. One law for function types and void. Then a record whole: its return type is found, its ids
-- are put where they wait, and its type is found.
use Prim.Native.Nat.{ℕ, ◌+◌}
use mathlib.Core.Path.{◌≡◌, refl, sym, ap, ◌∙◌, subst}
use mathlib.Core.List.{List, ◌∷◌}
use Rattle.std.specs.Prelude.{Option, Some, None}
use native.Mathlib.Omega.{arith}
use Rattle.definition.specs.Bytes.{u8_at, u16_at}
use Rattle.definition.specs.Instructions.{Instruction, type_function}
use Rattle.definition.specs.Sheet.{init_of, u16s_at, function_fields}
use Rattle.definition.specs.State.{Composite, function, State, Got, got, take_id, declare_alone, entry_ids}
use Rattle.definition.specs.Rules.{or_new_type, shared_type, result_of, declare_function}
use Rattle.writer.specs.declared.Writer.{Writer}
use Rattle.writer.specs.Regions.{declarations}
use Rattle.writer.specs.Cost.{Cost, an_id, a_composite, declaring, ◌⊕◌}
use Rattle.writer.specs.Held.{SmallComposite, composite_key, parts_of_c, Held}
use Rattle.writer.specs.Staged.{Staged}
use Rattle.writer.specs.Steps.{Gives, FoundBy, Took, FindsComposite, EnteredComposite, Puts, note_composite, staged}
use Rattle.writer.proofs.Staged.{staged_grown, staged_still}
use Rattle.writer.proofs.Turns.{named_next, in_turn, found_old}
use Rattle.writer_functions.specs.Written.{void_cost, signature_cost, function_cost, FunctionWritten}

module _ (x : Composite) (small : SmallComposite x) (write : ℕ → Instruction) {key : ℕ} (n : ℕ) (ek : key ≡ composite_key x) (w : Writer) (ep : staged n w ≡ parts_of_c x)
    (r : Option ℕ) (er : FindsComposite key n w r) where
  sought : (o : Option ℕ) → r ≡ o → (s : State) → Held w s → shared_type x write s ≡ or_new_type o x write s
  unfolding shared_type
  sought o e s h = ap (λ (p : Option ℕ). or_new_type p x write s) (sym (er x small ek ep s (w.sections.now, h)) ∙ e)

  pub shared_old : (c : Cost) (id : ℕ) → r ≡ Some id → FoundBy c (shared_type x write) w id w
  shared_old c id e = found_old c (shared_type x write) w id (sought (Some id) e)

  pub shared_new : r ≡ None → {id k : ℕ} {m v u : Writer} → Took w id m → Puts declarations k (write id) m v → EnteredComposite key n id v u → FoundBy (an_id ⊕ declaring k ⊕ a_composite n) (shared_type x write) w id u
  shared_new e {id = id} {u = u} p d y =
      let k = in_turn p.kept d.kept in
      record {
        grown = omega (arith, k.grown, y.grown);
        gives = λ s h.
            let next = named_next p s h in
            subst (λ (g : Got). Gives g id u) ((λ j. got (next j) (note_composite x (next j) (declare_alone (write (next j)) (take_id s)))) ∙ sym (sought None e s h))
            (record { named = refl; held = y.held x small ek (staged_still n k ∙ ep) _ (k.held s h) });
      }

-- a record whole
pub record_written : (b : List ℕ) {w v u x : Writer} {res id : ℕ} → FoundBy void_cost (result_of (init_of (u16_at b 0))) w res v
    → Staged (u8_at b 2 + 1) (λ s. res ∷ entry_ids s (u16s_at b 3 (u8_at b 2))) v u
    → FoundBy (signature_cost (u8_at b 2 + 1)) (shared_type (function (staged (u8_at b 2 + 1) u)) (λ i. type_function i (staged (u8_at b 2 + 1) u))) u id x
    → FunctionWritten (function_cost (u8_at b 2)) (function_fields b).value w x
unfolding function_fields declare_function
record_written b {v = v} {x = x} p q y = record {
  grown = omega (arith, p.grown, staged_grown q, y.grown);
  held = λ s h.
      let r = result_of (init_of (u16_at b 0)) s in
      let a = p.gives s h in
      let ps = entry_ids r.state (u16s_at b 3 (u8_at b 2)) in
      let ids = q.parts r.state (v.sections.now, a.held) ∙ ap (λ (i : ℕ). i ∷ ps) a.named in
      subst (λ (xs : List ℕ). Held x (shared_type (function xs) (λ i. type_function i xs) r.state).state) ids (y.gives r.state (q.held r.state a.held)).held;
}
