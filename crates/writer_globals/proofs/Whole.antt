-- A global from what each call leaves, in the order of the calls.
-- The rule is restated as a function of its parts (`run`), so that each part's equation goes in by itself.
use Rattle.entries.specs.declared.globals.ResourceBinding.{ResourceBinding}
use Prim.Native.Nat.{ℕ, suc, ◌+◌}
use mathlib.Core.Path.{◌≡◌, refl, sym, ◌∙◌, subst, fun_ext}
use mathlib.Core.Bool.{Bool, ◌&&◌, ◌||◌}
use mathlib.Core.List.{List}
use Rattle.std.specs.Prelude.{Option, Some, None}
use native.Mathlib.Omega.{arith}
use lib.Dec.{eqb}
use lib.ListN.{length}
use Rattle.definition.specs.Bytes.{name_at, name_end}
use Rattle.definition.specs.Instructions.{name, variable}
use Rattle.definition.specs.Sheet.{TypeEntry, Remap, Global, Options, global_fields}
use Rattle.definition.specs.Shapes.{storage_class}
use Rattle.definition.specs.Tests.{Seen}
use Rattle.definition.specs.State.{State, Got, take_id, declare_alone}
use Rattle.definition.specs.Rules.{label_if, inner_at, access_of, decorate_access, decorate_binding, pointer_of, block_base, binding_base, init_for, declare_global}
use Rattle.kinds.specs.Numbers.{space_number, space_access}
use Rattle.entries.specs.Globals.{global_of, bound_number, group_number, binding_number, GlobalTaken as Read}
use Rattle.entries.specs.declared.globals.GlobalVariable.{GlobalVariable}
use Rattle.writer.specs.declared.Writer.{Writer}
use Rattle.writer.specs.Regions.{declarations}
use Rattle.writer.specs.Cost.{naming, annotating, a_block, record_cost}
use Rattle.writer.specs.Held.{Held, Room}
use Rattle.writer.specs.Steps.{Kept, GotBy, Took, Puts}
use Rattle.writer.proofs.Turns.{AtMost, ◌▹◌, grown_within, room_within, tail_then, tail_within, in_turn, named_next}
use Rattle.writer_globals.specs.Costs.{pointer_cost, global_cost}
use Rattle.writer_globals.specs.Globals.{pointer_by, pointer_form_in, binding_decorated, Initialised, GlobalKept}
use Rattle.writer_globals.specs.Records.{global_in, GlobalTested}
use Rattle.writer_globals.specs.declared.pointers.PointerForm.{PointerForm}

-- ---- the rule by its parts

-- the binding as the definition writes it
as_bound : (b : List ℕ) (g : GlobalVariable) (x : Option ResourceBinding) (id : ℕ) (s : State) → binding_decorated x id s
    ≡ decorate_binding (eqb (bound_number x) 1) (record { name = name_at b 0; type = g.ty; space = space_number g.space; access = space_access g.space; bound = bound_number x; group = group_number x; binding = binding_number x; init = g.init }) id s
as_bound b g None id s = refl
as_bound b g (Some r) id s = refl

module _ (o : Options) (b : List ℕ) (g : GlobalVariable) (s : State) where
  -- the rule, by what is read for it and by its id
  abbrev run : ℕ → Option ℕ → (ℕ → State → State) → (State → Got) → Option ℕ → Bool → ℕ → State
  run id access bind point base null class =
      let a = bind id (decorate_access access id (label_if o.debug (name id) (name_at b 0) (take_id s))) in
      let p = point a in
      let z = init_for g.init null g.ty (block_base (eqb (space_number g.space) 4) base p.state) in
      declare_alone (variable p.id id class z.init) z.state

  abbrev gl : Global
  gl = global_of b g

  abbrev nulls : Bool
  nulls = eqb (space_number g.space) 1 || (eqb (space_number g.space) 2 && o.zeroing)

  -- the same with the definition's parts
  abbrev ruled : List TypeEntry → List Remap → State
  ruled ts rs =
      run (suc s.last) (access_of ts gl) (λ id t. decorate_binding (eqb (bound_number g.binding) 1) gl id t) (λ t. pointer_of (pointer_form_in ts rs gl) ts gl t) (binding_base (inner_at ts g.ty)) nulls
      (storage_class (space_number g.space))

  is_ruled : (d : Seen) (ts : List TypeEntry) (rs : List Remap) → d.types ≡ ts → d.remaps ≡ rs → ruled ts rs ≡ declare_global o d gl s
  unfolding declare_global
  is_ruled d ts rs et er = sym (λ j. ruled (et j) (er j))

-- ---- the whole

pub declared : (o : Options) (ts : List TypeEntry) (rs : List Remap) (b : List ℕ) (g : GlobalVariable) {w v₀ : Writer} {id : ℕ} → Took w id v₀
    → {v₁ : Writer} → Kept (naming (name_end b 0 + 2)) (label_if o.debug (name id) (name_at b 0)) v₀ v₁
    → {a : Option ℕ} → a ≡ access_of ts (global_of b g) → {v₂ : Writer} → Kept (annotating 6) (decorate_access a id) v₁ v₂
    → {v₃ : Writer} → Kept (annotating 8) (binding_decorated g.binding id) v₂ v₃
    → (y : PointerForm) → ((x : State) → pointer_by y g x ≡ pointer_of (pointer_form_in ts rs (global_of b g)) ts (global_of b g) x)
    → {p : ℕ} {v₄ : Writer} → GotBy pointer_cost (pointer_by y g) v₃ p v₄
    → {base : Option ℕ} → base ≡ binding_base (inner_at ts g.ty)
    → {v₅ : Writer} → Kept a_block (block_base (eqb (space_number g.space) 4) base) v₄ v₅
    → {null : Bool} → null ≡ (eqb (space_number g.space) 1 || (eqb (space_number g.space) 2 && o.zeroing))
    → {z : Option ℕ} {v₆ : Writer} → Initialised (init_for g.init null g.ty) v₅ z v₆
    → {class : ℕ} → class ≡ storage_class (space_number g.space)
    → {v₇ : Writer} → Puts declarations 5 (variable p id class z) v₆ v₇
    → GlobalKept (global_cost (name_end b 0)) o ts rs (global_of b g) w v₇
declared o ts rs b g {id = id} p₀ q₁ {a = a} ea q₂ q₃ y ey q₄ {base = base} eb q₅ {null = null} en q₆ {class = class} ec {v₇ = v₇} q₇ =
    let before = in_turn (in_turn (in_turn p₀.kept q₁) q₂) q₃ in
    let based = before.grown ▹ q₄.grown ▹ q₅.grown in
    record {
      grown = based ▹ q₆.grown ▹ q₇.kept.grown;
      tail = tail_within (omega arith) (tail_then based (tail_then (before.grown ▹ q₄.grown) (tail_then before.grown before.tail q₄.tail) q₅.tail) (tail_then q₆.grown q₆.tail q₇.kept.tail));
      held = λ d et er s h.
          let ei = named_next p₀ s h in
          let s₃ = binding_decorated g.binding id (decorate_access a id (label_if o.debug (name id) (name_at b 0) (take_id s))) in
          let k = q₄.gives s₃ (before.held s h) in
          let s₅ = block_base (eqb (space_number g.space) 4) base (pointer_by y g s₃).state in
          let i = q₆.gives s₅ (q₅.held (pointer_by y g s₃).state k.held) in
          let x = init_for g.init null g.ty s₅ in
          let e₃ = fun_ext (λ (n : ℕ). fun_ext (λ (u : State). as_bound b g g.binding n u)) in
          let e₄ = fun_ext ey in
          subst (Held v₇)
          ((λ j. declare_alone (variable (k.named j) id class (i.named j)) x.state)
          ∙ (λ j. run o b g s (ei j) (ea j) (e₃ j) (e₄ j) (eb j) (en j) (ec j))
          ∙ is_ruled o b g s d ts rs et er)
          (q₇.kept.held x.state i.held);
    }

-- ---- of a record's body

module _ {n : ℕ} (b : List ℕ) (tested : GlobalTested n b) where
  -- what was taken for its global is its global
  pub as_read : (g : GlobalVariable) → Read b g → global_of b g ≡ global_in b
  as_read g t = t tested.values

  -- three bytes stand before it, and fifteen behind its name
  price : AtMost (global_cost (name_end b 0)) (record_cost 2 (length b + 3))
  unfolding global_fields
  price = let w : name_end b 0 + 15 ≡ length b = tested.whole in omega (arith, w)

  pub record_room : {w : Writer} → Room (record_cost 2 (length b + 3)) w → Room (global_cost (name_end b 0)) w
  record_room room = room_within price room

  pub record_kept : {o : Options} {ts : List TypeEntry} {rs : List Remap} {g : Global} → g ≡ global_in b → {w v : Writer}
      → GlobalKept (global_cost (name_end b 0)) o ts rs g w v → GlobalKept (record_cost 2 (length b + 3)) o ts rs (global_in b) w v
  record_kept {o = o} e {v = v} k = record {
    grown = grown_within price k.grown;
    tail = tail_within price k.tail;
    held = λ d et er s h. subst (λ (g : Global). Held v (declare_global o d g s)) e (k.held d et er s h);
  }
