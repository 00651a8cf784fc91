-- The ways out of finding and declaring, each from what the callees leave: what was sought is there already, or a new id
-- is taken, what it names is found, its instruction is put and it is entered. The definition does the same steps to the
-- state, so each way is a chain of the callees' promises (`in_turn`), told as the definition tells it.
use Prim.Native.Nat.{ℕ, zero, suc, ◌+◌}
use mathlib.Core.Path.{◌≡◌, refl, sym, ap, ◌∙◌, subst}
use mathlib.Core.List.{List, [], ◌∷◌, ◌++◌}
use Rattle.std.specs.Prelude.{Option, Some, None}
use native.Mathlib.Omega.{arith}
use Rattle.definition.specs.Literals.{Literal, u32, same_literal}
use Rattle.definition.specs.Instructions.{Instruction, constant_null}
use Rattle.definition.specs.Shapes.{Shape, Key, same_key, inner, sized, rank, rank_of, type_of, uint, scalar, shape}
use Rattle.definition.specs.State.{State, Constants, Got, got, lookup, take_id, enter, declare_alone, declare_with, with_constants, listed, list_one, occurrences}
use Rattle.definition.specs.Finding.{find, find_at, or_new_key, inner_got, length_got, literal, literal_with, or_new_value, new_value, literal_kind, literal_op, enter_literal, null_of, or_new_null, capabilities_of}
use Rattle.literals.specs.Forms.{literal_form, bits_of}
use Rattle.lookup.specs.Packed.{packed_key, Small}
use Rattle.writer.specs.declared.Writer.{Writer}
use Rattle.writer.specs.Regions.{declarations}
use Rattle.writer.specs.Cost.{a_type, a_literal, listing_cost}
use Rattle.writer.specs.Held.{Held}
use Rattle.writer.specs.Steps.{Kept, Added, Gives, GotBy, Took, FindsType, FindsLiteral, FindsNull, EnteredType, EnteredLiteral, EnteredNull, note_literal, note_null, Puts, listing}
use Rattle.writer.proofs.Turns.{named_next, in_turn, kept_as, added_then, added_as, got_as, under_id, state_got, got_then, got_old}
use Rattle.finding.specs.Costs.{longer, declared_cost, cost_of, literal_cost, null_cost}
use Rattle.finding.specs.Found.{find_below, shape_declared, ShapePut}
use Rattle.finding.proofs.Prices.{inner_rank, inner_price, sized_rank, sized_price}

-- ---- a shape's own instruction

listed-append : (xs ys cs : List ℕ) → listed (xs ++ ys) cs ≡ listed ys (listed xs cs)
unfolding listed
listed-append [] ys cs = refl
listed-append (x ∷ xs) ys cs = listed-append xs ys (list_one (occurrences x cs) x cs)

-- two listings are one
declared_listed : (i : Instruction) (a b cs : List ℕ) → a ++ b ≡ cs → (s : State) → declare_alone i (listing b (listing a s)) ≡ declare_with cs i s
unfolding listed
declared_listed i a b cs e s =
    let q : listed b (listed a s.capabilities) ≡ listed cs s.capabilities = sym (listed-append a b s.capabilities) ∙ ap (λ (l : List ℕ). listed l s.capabilities) e in
    λ j. record { last = s.last; types = s.types; constants = s.constants; capabilities = q j; names = s.names; annotations = s.annotations; declarations = s.declarations ++ i ∷ [] }

pub put_declared : (l : Shape) (id x y : ℕ) (a b : List ℕ) → a ++ b ≡ capabilities_of l → {w u m v : Writer}
    → Added (listing_cost 1) (listing a) w u → Added (listing_cost 1) (listing b) u m → Puts declarations (4 + longer l) (type_of l id x y) m v → ShapePut l id x y w v
put_declared l id x y a b e p q d = added_as (added_then (added_then p q) d) (omega arith) (declared_listed (type_of l id x y) a b (capabilities_of l) e)

-- ---- finding a shape

at_rank : (n : ℕ) (k : Key) (s : State) → find_at n k s ≡ or_new_key (lookup same_key k s.types) (find_below n) k s
unfolding find_at
at_rank zero k s = refl
at_rank (suc n) k s = refl

module _ (l : Shape) (small : Small (shape l)) {key : ℕ} (ek : key ≡ packed_key (shape l)) (w : Writer) (r : Option ℕ) (er : FindsType key w r) where
  looked : (o : Option ℕ) → r ≡ o → (s : State) → Held w s → find (shape l) s ≡ or_new_key o (find_below (rank_of l)) (shape l) s
  unfolding find
  looked o e s h = at_rank (rank_of l) (shape l) s ∙ ap (λ (p : Option ℕ). or_new_key p (find_below (rank_of l)) (shape l) s) (sym (er (shape l) small ek s (w.sections.now, h)) ∙ e)

  pub type_old : (id : ℕ) → r ≡ Some id → GotBy (cost_of (shape l)) (find (shape l)) w id w
  type_old id e = got_old (cost_of (shape l)) (find (shape l)) w id (looked (Some id) e)

  pub type_new : r ≡ None → {id : ℕ} {n u v : Writer} → Took w id n → EnteredType key id n u → Kept (declared_cost l) (shape_declared l id) u v → GotBy (cost_of (shape l)) (find (shape l)) w id v
  type_new e {id = id} {n = n} {u = u} p q d =
      let entered : Kept a_type (enter (shape l) id) n u = record { grown = q.grown; tail = q.tail; held = q.held (shape l) small ek } in
      got_as (under_id id (in_turn (in_turn p.kept entered) d)) (omega arith)
      (λ s h. let next = named_next p s h in (λ j. got (next j) (shape_declared l (next j) (enter (shape l) (next j) (take_id s)))) ∙ sym (looked None e s h))

-- ---- declaring what a shape names, then the shape

-- a literal's type is a scalar: it nests no deeper
at_scalar : (n : ℕ) (s : State) → literal_with (find_at 0) (u32 n) s ≡ literal (u32 n) s
unfolding literal_with find
at_scalar n s = go (lookup same_literal (u32 n) s.constants.literals)
  where
    go : (o : Option ℕ) → or_new_value o (find_at 0) (shape (scalar (uint 4))) (literal_op (u32 n)) (enter_literal (u32 n)) s ≡ or_new_value o find (shape (scalar (uint 4))) (literal_op (u32 n)) (enter_literal (u32 n)) s
    go (Some i) = refl
    go None = refl

-- declare_shape by what the shape names
abbrev named : Option Key → Option ℕ → (Key → State → Got) → Shape → ℕ → State → State
named o q f l id s =
    let g = inner_got o f s in
    let c = length_got q f g.state in
    declare_with (capabilities_of l) (type_of l id g.id c.id) c.state

module _ (l : Shape) (id : ℕ) {w : Writer} (k : Key) (e : inner l ≡ Some k) {x : ℕ} {u : Writer} (g : GotBy (cost_of k) (find k) w x u) where
  -- the shape is one deeper than what it names
  one_deeper : (q : Option ℕ) → sized l ≡ q → (s : State) → shape_declared l id s ≡ named (Some k) q (find_at (rank k)) l id s
  one_deeper q eq s = (λ j. named (e j) (eq j) (find_below (rank_of l)) l id s) ∙ ap (λ (n : ℕ). named (Some k) q (find_below n) l id s) (inner_rank l k e)

  pub declared_inner : sized l ≡ None → {v : Writer} → ShapePut l id x 0 u v → Kept (declared_cost l) (shape_declared l id) w v
  unfolding find
  declared_inner eq p = kept_as (got_then (λ x s. declare_with (capabilities_of l) (type_of l id x 0) s) g p.kept) (inner_price l k e) (λ s h. sym (one_deeper None eq s))

  pub declared_sized : (n : ℕ) → sized l ≡ Some n → {y : ℕ} {a v : Writer} → GotBy literal_cost (literal (u32 n)) u y a → ShapePut l id x y a v → Kept (declared_cost l) (shape_declared l id) w v
  unfolding find
  declared_sized n eq m p =
      let z : rank k ≡ 0 = omega (arith, inner_rank l k e, sized_rank l n eq) in
      kept_as (in_turn (in_turn (state_got g) (state_got m)) p.kept) (sized_price l n k e eq)
      (λ s h.
      let t = find k s in
      let a = g.gives s h in
      let b = m.gives t.state a.held in
      let c : literal (u32 n) t.state ≡ literal_with (find_at (rank k)) (u32 n) t.state = sym (ap (λ (m : ℕ). literal_with (find_at m) (u32 n) t.state) z ∙ at_scalar n t.state) in
      (λ j. declare_with (capabilities_of l) (type_of l id (a.named j) (b.named j)) (literal (u32 n) t.state).state)
      ∙ ap (λ (o : Got). declare_with (capabilities_of l) (type_of l id t.id o.id) o.state) c
      ∙ sym (one_deeper (Some n) eq s))

-- ---- a new value: its id, its type, its instruction, its row

pub gives_new : (f : State → Got) (k : Key) (write : ℕ → ℕ → Instruction) (note : ℕ → Constants → Constants) {w : Writer} → ((s : State) → Held w s → f s ≡ new_value find k write note s)
    → {id ty c : ℕ} {n x v u : Writer} → Took w id n → GotBy (cost_of k) (find k) n ty x → Puts declarations c (write ty id) x v
    → ((s : State) → Held v s → Held u (with_constants (note id s.constants) s)) → (s : State) → Held w s → Gives (f s) id u
gives_new f k write note e {id = id} {u = u} p q d entered s h =
    let next = named_next p s h in
    let g = find k (take_id s) in
    let a = q.gives (take_id s) (p.kept.held s h) in
    subst (λ (g : Got). Gives g id u)
    ((λ j. got (next j) (with_constants (note (next j) g.state.constants) (declare_alone (write (a.named j) (next j)) g.state))) ∙ sym (e s h))
    (record { named = refl; held = entered _ (d.kept.held g.state a.held) })

-- ---- literals

module _ (L : Literal) {form bits : ℕ} (ef : form ≡ literal_form L) (eb : bits ≡ bits_of L) (w : Writer) (r : Option ℕ) (er : FindsLiteral form bits w r) where
  abbrev k : Key
  k = shape (scalar (literal_kind L))

  valued : (o : Option ℕ) → r ≡ o → (s : State) → Held w s → literal L s ≡ or_new_value o find k (literal_op L) (enter_literal L) s
  unfolding literal_with
  valued o e s h = ap (λ (p : Option ℕ). or_new_value p find k (literal_op L) (enter_literal L) s) (sym (er L ef eb s (w.sections.now, h)) ∙ e)

  pub literal_old : (id : ℕ) → r ≡ Some id → GotBy literal_cost (literal L) w id w
  literal_old id e = got_old literal_cost (literal L) w id (valued (Some id) e)

  pub literal_new : r ≡ None → {id ty : ℕ} {n x v u : Writer} → Took w id n → GotBy (cost_of k) (find k) n ty x → Puts declarations 5 (literal_op L ty id) x v → EnteredLiteral form bits id v u
      → GotBy literal_cost (literal L) w id u
  literal_new e {id = id} {v = v} {u = u} p q d m =
      let entered : Kept a_literal (note_literal L id) v u = record { grown = m.grown; tail = m.tail; held = m.held L ef eb } in
      let c = in_turn (in_turn (in_turn p.kept (state_got q)) d.kept) entered in
      record { grown = omega (arith, c.grown); tail = c.tail; gives = gives_new (literal L) k (literal_op L) (enter_literal L) (valued None e) p q d entered.held }

-- ---- nulls

module _ (t : ℕ) (w : Writer) (r : Option ℕ) (er : FindsNull t w r) where
  sought_null : (o : Option ℕ) → r ≡ o → (s : State) → Held w s → null_of t s ≡ or_new_null o t s
  unfolding null_of
  sought_null o e s h = ap (λ (p : Option ℕ). or_new_null p t s) (sym (er s (w.sections.now, h)) ∙ e)

  pub null_old : (id : ℕ) → r ≡ Some id → GotBy null_cost (null_of t) w id w
  null_old id e = got_old null_cost (null_of t) w id (sought_null (Some id) e)

  pub null_new : r ≡ None → {id : ℕ} {n v u : Writer} → Took w id n → Puts declarations 3 (constant_null t id) n v → EnteredNull t id v u → GotBy null_cost (null_of t) w id u
  null_new e {id = id} p d m = got_as (under_id id (in_turn (in_turn p.kept d.kept) m.kept)) (omega arith)
      (λ s h. let next = named_next p s h in (λ j. got (next j) (note_null t (next j) (declare_alone (constant_null t (next j)) (take_id s)))) ∙ sym (sought_null None e s h))
