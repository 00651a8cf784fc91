-- The wrapper whole, from what each call leaves.
use Prim.Native.Nat.{ℕ, suc}
use mathlib.Core.Path.{◌≡◌, ap, ◌∙◌, subst}
use mathlib.Core.Bool.{false}
use mathlib.Core.List.{[], ◌∷◌}
use Rattle.std.specs.Prelude.{Option}
use native.Mathlib.Omega.{arith}
use Rattle.definition.specs.Numbers.{DecorationOffset}
use Rattle.definition.specs.Instructions.{member_decorate, type_struct, type_pointer}
use Rattle.definition.specs.Shapes.{entry}
use Rattle.definition.specs.State.{State, Got, take_id, annotate, declare_alone}
use Rattle.definition.specs.Finding.{find}
use Rattle.definition.specs.Rules.{block, stride_member}
use Rattle.writer.specs.declared.Writer.{Writer}
use Rattle.writer.specs.Regions.{declarations}
use Rattle.writer.specs.Cost.{no_cost, a_block}
use Rattle.writer.specs.Held.{Held}
use Rattle.writer.specs.Steps.{Kept, GotBy, Took, Puts}
use Rattle.writer.proofs.Turns.{tail_then, tail_within, in_turn}
use Rattle.writer_members.specs.Members.{member_cost, member_decorated}
use Rattle.writer_globals.specs.Costs.{wrapper_cost}
use Rattle.writer_globals.specs.Globals.{wrap_in}

pub wrapper : (t class : ℕ) (o : Option ℕ) {w v : Writer} {id : ℕ} → Took w id v
    → {a : Writer} → Kept a_block (annotate (block id)) v a
    → {c : Writer} → Kept (member_cost false []) (member_decorated id 0 0 false [] o) a c
    → {f : ℕ} {e : Writer} → GotBy no_cost (find (entry t)) c f e
    → {d : Writer} → Puts declarations 3 (type_struct id (f ∷ [])) e d
    → {m : ℕ} {n : Writer} → Took d m n
    → {u : Writer} → Puts declarations 4 (type_pointer m class id) n u → GotBy wrapper_cost (wrap_in o t class) w m u
wrapper t class o {id = i} p q₁ q₃ {f = f} q₄ q₅ {m = m} p₂ {u = u} q₆ =
    let before = in_turn (in_turn p.kept q₁) q₃ in
    let after = in_turn (in_turn q₅.kept p₂.kept) q₆.kept in
    record {
      grown = omega (arith, before.grown, q₄.grown, after.grown);
      tail = tail_within (omega arith) (tail_then before.grown before.tail (tail_then q₄.grown q₄.tail after.tail));
      gives = λ s h.
          let ei : i ≡ suc s.last = p.named ∙ ap suc h.last in
          let A : ℕ → State = λ i. stride_member o i 0 (annotate (member_decorate i 0 DecorationOffset (0 ∷ [])) (annotate (block i) (take_id s))) in
          let F : ℕ → Got = λ i. find (entry t) (A i) in
          let g = q₄.gives (A i) (before.held s h) in
          let em : m ≡ suc (F i).state.last = p₂.named ∙ ap suc (q₅.kept.held (F i).state g.held).last in
          record {
            named = em ∙ ap (λ (k : ℕ). suc (F k).state.last) ei;
            held = subst (Held u)
                ((λ j. declare_alone (type_pointer (em j) class i) (take_id (declare_alone (type_struct i (g.named j ∷ [])) (F i).state)))
                ∙ ap (λ (k : ℕ). declare_alone (type_pointer (suc (F k).state.last) class k) (take_id (declare_alone (type_struct k ((F k).id ∷ [])) (F k).state))) ei) (after.held (F i).state g.held);
          };
    }
