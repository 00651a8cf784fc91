-- Finding a key's id keeps the state sound, and the id found is declared. By induction on the fuel, which is the nesting rank: a
-- find needs only that every pending id's shape nests deeper (`Over`). A new shape begins, finds its inner type and its length,
-- and is declared; a new value takes its id, finds its type, and is declared.
use Prim.Native.Nat.{ℕ, suc, zero, ◌/◌, ◌%◌, ◌<◌, ◌≤◌}
use mathlib.Core.Path.{◌≡◌, refl, sym, ap, ◌∙◌, subst}
use mathlib.Core.Logic.{◌⊎◌, inl, inr}
use mathlib.Core.List.{List, [], ◌∷◌, ◌++◌, Memᴰ}
use Rattle.std.specs.Prelude.{Option, Some, None}
use mathlib.Core.Bool.{Bool, true, false}
use native.Mathlib.Omega.{arith}
use lib.Dec.{T, eqb, lit<, lit≤}
use lib.ListN.{length}
use Rattle.definition.specs.Choice.{pick}
use Rattle.definition.specs.Instructions.{Instruction, constant_op, constant_true, constant_false}
use Rattle.definition.specs.Reader.{uses}
use Rattle.definition.specs.Literals.{Literal, f64, f32, u32, i32, boolean, same_literal}
use Rattle.definition.specs.Shapes.{Shape, Key, same_key, inner, sized, rank, rank_of, type_of, float}
use Rattle.definition.specs.Shapes.{scalar, vector, matrix, pointer, value_pointer, image, sampler, acceleration_structure, ray_query, binding_array, binding_pointer, entry, shape, one, many}
use Rattle.definition.specs.State.{Composite, Constants, State, Got, lookup, same, take_id, enter, with_constants, declare_alone, declare_with}
use Rattle.definition.specs.Finding.{capabilities_of, literal_kind, literal_op, enter_literal, or_new_value, literal_with, inner_got, length_got, new_key, or_new_key, find_at, find}
use Rattle.definition.specs.WellDeclared.{times, once, EqualTypes, plain_type, needs}
use Rattle.definition.proofs.Lists.{last_in, snoc_cases, same_itself, times_snoc, times_in, lookup_in, lookup_out}
use Rattle.definition.proofs.Sizes.{W, Under, Sized, SmallKind, SmallShape}
use Rattle.definition.proofs.Few.{one_few}
use Rattle.definition.proofs.ByShape.{taken, FitsIn, FitsLength, Formed, inner_ids, length_ids, Inside, SmallLength, uses_type, Deeper, equal_types_same, facts}
use Rattle.definition.proofs.Sound.{Sound, Settled, Spelt, Routine, is_routine, not_shape, Held, declared_snoc, settled_declared, take_sound, begin_sound, declare_sound, other_sound, constants_sound, not_declared, taken_range}

-- what is entered and declared stays so, and no entry, function type or void is entered
pub record Grew (s t : State) : Type 0 where
  pub more : (k : Key) (i : ℕ) → Memᴰ (k, i) s.types → Memᴰ (k, i) t.types
  pub still : (i : ℕ) → times i s.declarations ≤ times i t.declarations
  pub up : s.last ≤ t.last
  pub values : t.constants.values ≡ s.constants.values
  pub fresh : (h i : ℕ) → Memᴰ (entry h, i) t.types → Memᴰ (entry h, i) s.types
  pub shared : (c : Composite) (i : ℕ) → Memᴰ (c, i) s.constants.composites → Memᴰ (c, i) t.constants.composites
  pub routines : (c : Composite) (i : ℕ) → T (is_routine c) → Memᴰ (c, i) t.constants.composites → Memᴰ (c, i) s.constants.composites

pub grew_refl : (s : State) → Grew s s
grew_refl s = record { more = λ k i m. m; still = λ i. omega arith; up = omega arith; values = refl; fresh = λ h i m. m; shared = λ c i m. m; routines = λ c i t m. m }

pub grew_trans : {s t u : State} → Grew s t → Grew t u → Grew s u
grew_trans g h = record { more = λ k i m. h.more k i (g.more k i m); still = λ i. omega (arith, g.still i, h.still i); up = omega (arith, g.up, h.up); values = h.values ∙ g.values; fresh = λ n i m. g.fresh n i (h.fresh n i m); shared = λ c i m. h.shared c i (g.shared c i m); routines = λ c i t m. g.routines c i t (h.routines c i t m) }

pub with_grew : (cs : List ℕ) (d : Instruction) (s : State) → Grew s (declare_with cs d s)
with_grew cs d s = record { more = λ k i m. m; still = λ i. omega (arith, times_snoc i s.declarations d); up = omega arith; values = refl; fresh = λ h i m. m; shared = λ c i m. m; routines = λ c i t m. m }

pub declare_grew : (d : Instruction) (s : State) → Grew s (declare_alone d s)
declare_grew d s = with_grew [] d s

pub enter_grew : (l : Shape) (id : ℕ) (s : State) → Grew s (enter (shape l) id s)
enter_grew l id s = record { more = λ k' i m. mathlib.Core.List.Memᴰ.append_left ((shape l, id) ∷ []) m; still = λ i. omega arith; up = omega arith; values = refl; fresh = λ h i m. back h i (snoc_cases s.types m); shared = λ c i m. m; routines = λ c i t m. m }
  where
    back : (h i : ℕ) → Memᴰ (entry h, i) s.types ⊎ (Path (Key × ℕ) (entry h, i) (shape l, id)) → Memᴰ (entry h, i) s.types
    back h i (inl m) = m
    back h i (inr q) = let p : entry h ≡ shape l = ap (λ (y : Key × ℕ). y.0) q in let z : ◌≡◌ {A = ℕ} 0 1 = cc in absurd (omega arith)

pub take_grew : (s : State) → Grew s (take_id s)
take_grew s = record { more = λ k i m. m; still = λ i. omega arith; up = omega arith; values = refl; fresh = λ h i m. m; shared = λ c i m. m; routines = λ c i t m. m }

-- every pending id's shape nests deeper
abbrev pub Over : ℕ → List (ℕ × ℕ) → Type 0
Over n [] = Unit
Over n (p ∷ ps) = (n < p.0) × Over n ps

over_less : (m n : ℕ) (P : List (ℕ × ℕ)) → m < n → Over n P → Over m P
over_less m n [] h o = tt
over_less m n (p ∷ ps) h o = (omega arith, over_less m n ps h o.1)

not_over : (n i : ℕ) (P : List (ℕ × ℕ)) → Memᴰ (n, i) P → Over n P → ⊥
not_over n i [] m o = mathlib.Core.List.Memᴰ.not-nil m
not_over n i (p ∷ ps) m o = go (mathlib.Core.List.Memᴰ.cases_cons m) (λ q. not_over n i ps q o.1)
  where
    go : (Path (ℕ × ℕ) (n, i) p) ⊎ Memᴰ (n, i) ps → (Memᴰ (n, i) ps → ⊥) → ⊥
    go (inl q) f = let e : n ≡ p.0 = ap (λ (y : ℕ × ℕ). y.0) q in omega arith
    go (inr q) f = f q

-- the entries that a shape names
abbrev pub named : Shape → List ℕ
named (scalar k) = []
named (vector n k) = []
named (matrix c r w) = []
named (pointer b c) = b ∷ []
named (value_pointer n k c) = []
named (image k d p a m s f) = []
named sampler = []
named acceleration_structure = []
named ray_query = []
named (binding_array b n) = b ∷ []
named (binding_pointer b n s a) = b ∷ []

-- the entries that a key names are entered, and its numbers fit
abbrev pub Entered : List (Key × ℕ) → ℕ → Type 0
Entered types h = (i : ℕ) × Memᴰ (entry h, i) types

pub record Grounds (types : List (Key × ℕ)) (l : Shape) : Type 0 where
  pub entered : (b : ℕ) → Memᴰ b (named l) → Entered types b
  pub small : SmallShape l

abbrev pub Grounded : List (Key × ℕ) → Key → Type 0
Grounded types (entry h) = Entered types h
Grounded types (shape l) = Grounds types l

abbrev GroundedIn : List (Key × ℕ) → Option Key → Type 0
GroundedIn types None = Unit
GroundedIn types (Some k) = Grounded types k

-- a shape that names no entry
pub free_grounded : (types : List (Key × ℕ)) (l : Shape) → named l ≡ [] → SmallShape l → Grounds types l
free_grounded types l e h = record { entered = λ b m. absurd (mathlib.Core.List.Memᴰ.not-nil (subst (λ (xs : List ℕ). Memᴰ b xs) e m)); small = h }

inner_grounded : (types : List (Key × ℕ)) (l : Shape) → Grounds types l → GroundedIn types (inner l)
inner_grounded types (scalar k) g = tt
inner_grounded types (vector n k) g = free_grounded types (scalar k) refl ((facts (vector n k)).small_inner g.small)
inner_grounded types (matrix c r w) g = free_grounded types (vector r (float w)) refl ((facts (matrix c r w)).small_inner g.small)
inner_grounded types (pointer b c) g = g.entered b (mathlib.Core.List.Memᴰ.head refl)
inner_grounded types (value_pointer one k c) g = free_grounded types (scalar k) refl ((facts (value_pointer one k c)).small_inner g.small)
inner_grounded types (value_pointer (many n) k c) g = free_grounded types (vector n k) refl ((facts (value_pointer (many n) k c)).small_inner g.small)
inner_grounded types (image k d p a m s f) g = free_grounded types (scalar k) refl ((facts (image k d p a m s f)).small_inner g.small)
inner_grounded types sampler g = tt
inner_grounded types acceleration_structure g = tt
inner_grounded types ray_query g = tt
inner_grounded types (binding_array b n) g = g.entered b (mathlib.Core.List.Memᴰ.head refl)
inner_grounded types (binding_pointer b n s a) g = record { entered = g.entered; small = g.small.0 }

pub grounded_more : {s t : State} → Grew s t → (k : Key) → Grounded s.types k → Grounded t.types k
grounded_more w (entry h) g = (g.0, w.more (entry h) g.0 g.1)
grounded_more w (shape l) g = record { entered = λ b m. let q = g.entered b m in (q.0, w.more (entry b) q.0 q.1); small = g.small }

pub constants_grew : (c : Constants) (s : State) → c.values ≡ s.constants.values → ((x : Composite) (i : ℕ) → Memᴰ (x, i) s.constants.composites → Memᴰ (x, i) c.composites)
    → ((x : Composite) (i : ℕ) → T (is_routine x) → Memᴰ (x, i) c.composites → Memᴰ (x, i) s.constants.composites) → Grew s (with_constants c s)
constants_grew c s e f g = record { more = λ k i m. m; still = λ i. omega arith; up = omega arith; values = e; fresh = λ h i m. m; shared = f; routines = g }

-- the ids of a list are declared
abbrev pub AllDeclared : List ℕ → State → Type 0
AllDeclared xs s = (u : ℕ) → Memᴰ u xs → 1 ≤ times u s.declarations

pub one_declared : (x : ℕ) (s : State) → 1 ≤ times x s.declarations → AllDeclared (x ∷ []) s
one_declared x s h u m = rw (mathlib.Core.List.Memᴰ.eq_of_singleton m) h

pub more_declared : (x : ℕ) (xs : List ℕ) (s : State) → 1 ≤ times x s.declarations → AllDeclared xs s → AllDeclared (x ∷ xs) s
more_declared x xs s h g u m = go (mathlib.Core.List.Memᴰ.cases_cons m)
  where
    go : (u ≡ x) ⊎ Memᴰ u xs → 1 ≤ times u s.declarations
    go (inl e) = rw e h
    go (inr n) = g u n

-- an id is declared by the instruction that was written last
pub just_declared : (id : ℕ) (d : Instruction) (s : State) → d.result ≡ Some id → 1 ≤ times id (declare_alone d s).declarations
just_declared id d s e = omega (arith, times_snoc id s.declarations d, ap (λ (o : Option ℕ). once o id) e, same_itself id)

pub record GotId (start : ℕ) (P : List (ℕ × ℕ)) (s : State) (g : Got) : Type 0 where
  pub sound : Sound start P g.state
  pub grew : Grew s g.state
  pub declared : 1 ≤ times g.id g.state.declarations

-- what an instruction of a value is, written with its type's id and its own, in a state that declares the other ids it uses
pub record Writes (s : State) (write : ℕ → ℕ → Instruction) : Type 0 where
  pub result : (t id : ℕ) → (write t id).result ≡ Some id
  pub formed : (t id : ℕ) → Formed (write t id)
  pub fits : (last t id : ℕ) → t ≤ last → id ≤ last → s.last ≤ last → Sized last (write t id)
  pub other : (t id : ℕ) → T (plain_type (write t id).opcode) → ⊥
  pub free : (t id : ℕ) → needs (write t id) ≡ []
  pub used : (t id u : ℕ) → Memᴰ u (uses (write t id)) → (u ≡ t) ⊎ (1 ≤ times u s.declarations)

-- how a new value is noted in the tables
pub record Keeps (note : ℕ → Constants → Constants) : Type 0 where
  pub held : (id : ℕ) (c : Constants) (ds : List Instruction) → Held c ds → 1 ≤ times id ds → Held (note id c) ds
  pub values : (id : ℕ) (c : Constants) → (note id c).values ≡ c.values
  pub more : (id : ℕ) (c : Constants) (x : Composite) (i : ℕ) → Memᴰ (x, i) c.composites → Memᴰ (x, i) (note id c).composites
  pub back : (id : ℕ) (c : Constants) (x : Composite) (i : ℕ) → T (is_routine x) → Memᴰ (x, i) (note id c).composites → Memᴰ (x, i) c.composites

-- a literal whose words fit
abbrev pub SmallLiteral : Literal → Type 0
SmallLiteral (f64 n) = n / 4294967296 ≤ W
SmallLiteral (f32 n) = n ≤ W
SmallLiteral (u32 n) = n ≤ W
SmallLiteral (i32 n) = n ≤ W
SmallLiteral (boolean n) = Unit

singleton_used : (s : State) (t u : ℕ) → Memᴰ u (t ∷ []) → (u ≡ t) ⊎ (1 ≤ times u s.declarations)
singleton_used s t u m = inl (mathlib.Core.List.Memᴰ.eq_of_singleton m)

constant_writes : (s : State) (x : ℕ) (xs : List ℕ) → ((last : ℕ) → W ≤ last → Under last (x ∷ xs)) → length xs ≤ 1 → Writes s (λ t id. constant_op t id (x ∷ xs))
unfolding needs uses
constant_writes s x xs small few = record {
  result = λ t id. refl;
  formed = λ t id. taken (rw (one_few xs few) tt);
  fits = λ last t id p q l. record { words = λ B w r. (omega arith, (omega arith, small B w)); short = omega arith };
  other = λ t id p. p;
  free = λ t id. refl;
  used = λ t id u m. singleton_used s t u m;
}

pick_writes : (s : State) (b : Bool) (f g : ℕ → ℕ → Instruction) → Writes s f → Writes s g → Writes s (λ t id. pick b (f t id) (g t id))
pick_writes s true f g v w = v
pick_writes s false f g v w = w

bare_writes : (s : State) → Writes s constant_true × Writes s constant_false
unfolding needs uses
bare_writes s = (
  record {
    result = λ t id. refl;
    formed = λ t id. taken tt;
    fits = λ last t id p q l. record { words = λ B w r. (omega arith, (omega arith, tt)); short = lit< tt };
    other = λ t id p. p;
    free = λ t id. refl;
    used = λ t id u m. singleton_used s t u m;
  },
  record {
    result = λ t id. refl;
    formed = λ t id. taken tt;
    fits = λ last t id p q l. record { words = λ B w r. (omega arith, (omega arith, tt)); short = lit< tt };
    other = λ t id p. p;
    free = λ t id. refl;
    used = λ t id u m. singleton_used s t u m;
  },
)

literal_writes : (s : State) (l : Literal) → SmallLiteral l → Writes s (literal_op l)
literal_writes s (f64 n) h = constant_writes s (n % 4294967296) (n / 4294967296 ∷ []) (λ B w. (omega arith, (omega arith, tt))) (lit≤ tt)
literal_writes s (f32 n) h = constant_writes s n [] (λ B w. (omega arith, tt)) (lit≤ tt)
literal_writes s (u32 n) h = constant_writes s n [] (λ B w. (omega arith, tt)) (lit≤ tt)
literal_writes s (i32 n) h = constant_writes s n [] (λ B w. (omega arith, tt)) (lit≤ tt)
literal_writes s (boolean n) h = pick_writes s (eqb n 1) constant_true constant_false (bare_writes s).0 (bare_writes s).1

literal_keeps : (l : Literal) → Keeps (enter_literal l)
literal_keeps l = record {
  held = λ id c ds h old. record { literals = declared_snoc c.literals ds l id h.literals old; composites = h.composites; nulls = h.nulls; values = h.values };
  values = λ id c. refl;
  more = λ id c x i m. m;
  back = λ id c x i t m. m;
}

pub small_literal_kind : (l : Literal) → SmallKind (literal_kind l)
small_literal_kind (f64 n) = lit≤ tt
small_literal_kind (f32 n) = lit≤ tt
small_literal_kind (u32 n) = lit≤ tt
small_literal_kind (i32 n) = lit≤ tt
small_literal_kind (boolean n) = tt

both_declared : (xs ys : List ℕ) (s : State) → AllDeclared xs s → AllDeclared ys s → AllDeclared (xs ++ ys) s
both_declared xs ys s f g u m = go (mathlib.Core.List.Memᴰ.append_cases xs m)
  where
    go : Memᴰ u xs ⊎ Memᴰ u ys → 1 ≤ times u s.declarations
    go (inl n) = f u n
    go (inr n) = g u n

fits_grew : {s t : State} → Grew s t → (o : Option Key) (x : ℕ) → FitsIn s.types o x → FitsIn t.types o x
fits_grew w None x f = f
fits_grew w (Some k) x f = w.more k x f

shallow_key : (k : Key) → rank k ≤ 2
shallow_key (entry h) = omega arith
shallow_key (shape l) = (facts l).shallow

record GotPart (start : ℕ) (P : List (ℕ × ℕ)) (s : State) (F : Type 0) (xs : List ℕ) (g : Got) : Type 0 where
  sound : Sound start P g.state
  low : g.id ≤ g.state.last
  grew : Grew s g.state
  fits : F
  declared : AllDeclared xs g.state

pub record Found (start : ℕ) (P : List (ℕ × ℕ)) (s : State) (k : Key) (g : Got) : Type 0 where
  pub sound : Sound start P g.state
  pub grew : Grew s g.state
  pub has : Memᴰ (k, g.id) g.state.types
  pub declared : 1 ≤ times g.id g.state.declarations

module _ (start : ℕ) where
  -- a shape's instruction, after what it names
  pub shape_sound : (l : Shape) (id x y : ℕ) (P : List (ℕ × ℕ)) (s : State) → SmallShape l → x ≤ s.last → y ≤ s.last → Memᴰ (shape l, id) s.types → FitsIn s.types (inner l) x → FitsLength (sized l) y
      → AllDeclared (inner_ids (inner l) x ++ length_ids (sized l) y) s
      → Sound start ((rank_of l, id) ∷ P) s → Sound start P (declare_with (capabilities_of l) (type_of l id x y) s)
  shape_sound l id x y P s sm lx ly m f g used h =
      declare_sound start (rank_of l) id P s (capabilities_of l) (type_of l id x y) refl ((facts l).formed id x y) ((facts l).fits sm s.last id x y (h.bounded (shape l) id m) lx ly) ((facts l).needed sm id x y)
      (λ u n. used u (rw (uses_type l id x y) at n)) alone
      (λ t. inl (record { l = l; id = id; x = x; y = y; spells = refl; entered = m; fits = f }))
      settles h
    where
      alone : (j : Instruction) → Memᴰ j s.declarations → EqualTypes j (type_of l id x y) → ⊥
      alone j n t = by (h.spelt j n t.plain)
        where
          by : Spelt s.types j ⊎ Routine s.constants.composites j → ⊥
          by (inr r) = not_shape l r.c r.id r.is (sym (ap (λ (d : Instruction). d.opcode) r.spells) ∙ t.opcode)
          by (inl p) =
              let t' : EqualTypes (type_of p.l p.id p.x p.y) (type_of l id x y) = rw p.spells at t in
              let e : p.l ≡ l = equal_types_same s.types h.injective p.l l p.id id p.x p.y x y p.fits f t' in
              let q : p.id ≡ id = h.unique (shape l) p.id id (rw e at p.entered) m in
              let o : once j.result id ≡ same id p.id = ap (λ (d : Instruction). once d.result id) p.spells in
              let o' : same id p.id ≡ 1 = rw q (same_itself id) in
              omega (arith, times_in id n, o, o', not_declared start (rank_of l) id P s h (h.bounded (shape l) id m))

      settles : (a : Shape) → Memᴰ (shape a, id) s.types → rank_of a ≡ rank_of l → Settled s.types (s.declarations ++ type_of l id x y ∷ []) a id
      settles a n e =
          let q : a ≡ l = h.injective a l id n m in
          rw q (record { x = x; y = y; fits = f; length = g; declared = last_in s.declarations (type_of l id x y) })

  abbrev pub Finds : ℕ → (Key → State → Got) → Type 0
  Finds n f = (k : Key) (s : State) (P : List (ℕ × ℕ)) → rank k < n → Over (rank k) P → Grounded s.types k → Sound start P s → Found start P s k (f k s)

  -- an id that is declared is at most the last one taken
  pub low : (P : List (ℕ × ℕ)) (s : State) (i : ℕ) → Sound start P s → 1 ≤ times i s.declarations → i ≤ s.last
  low P s i h t = (taken_range start P s h i (omega arith)).1

  -- a value that is found, or takes its id, finds its type and is declared
  pub value_found : (n : ℕ) (f : Key → State → Got) → Finds n f → (o : Option ℕ) (k : Key) (write : ℕ → ℕ → Instruction) (note : ℕ → Constants → Constants) (s : State) (P : List (ℕ × ℕ))
      → ((i : ℕ) → o ≡ Some i → 1 ≤ times i s.declarations) → Writes s write → Keeps note → Over (rank k) P → Grounded s.types k → rank k < n → Sound start P s → GotId start P s (or_new_value o f k write note s)
  value_found n f fs (Some i) k write note s P old w kp ov gr deep h = record { sound = h; grew = grew_refl s; declared = old i refl }
  value_found n f fs None k write note s P old w kp ov gr deep h =
      let id = suc s.last in
      let g = f k (take_id s) in
      let r : Found start ((9, id) ∷ P) (take_id s) k g = fs k (take_id s) ((9, id) ∷ P) deep (omega (arith, shallow_key k), ov) gr (take_sound start 9 P s h) in
      let d = write g.id id in
      let t = declare_alone d g.state in
      let new : 1 ≤ times id t.declarations = just_declared id d g.state (w.result g.id id) in
      let fits : Sized g.state.last d = w.fits g.state.last g.id id (low ((9, id) ∷ P) g.state g.id r.sound r.declared) (omega (arith, r.grew.up)) (omega (arith, r.grew.up)) in
      let t_sound : Sound start P t = other_sound start id P g.state d (w.result g.id id) (w.formed g.id id) fits (w.other g.id id) (w.free g.id id)
      (λ u m. used g r.declared u (r.grew.still u) (w.used g.id id u m)) r.sound in
      record {
        sound = constants_sound start (note id t.constants) P t (kp.held id t.constants t.declarations t_sound.constants new) (kp.more id t.constants) (kp.back id t.constants) t_sound;
        grew = grew_trans (take_grew s) (grew_trans r.grew (grew_trans (declare_grew d g.state) (constants_grew (note id t.constants) t (kp.values id t.constants) (kp.more id t.constants) (kp.back id t.constants))));
        declared = new;
      }
    where
      used : (g : Got) → 1 ≤ times g.id g.state.declarations → (u : ℕ) → times u s.declarations ≤ times u g.state.declarations → (u ≡ g.id) ⊎ (1 ≤ times u s.declarations) → 1 ≤ times u g.state.declarations
      used g old u le (inl e) = rw e old
      used g old u le (inr q) = omega arith

  -- a literal
  pub literal_found : (n : ℕ) (f : Key → State → Got) → Finds n f → (l : Literal) → SmallLiteral l → (s : State) (P : List (ℕ × ℕ)) → Over 0 P → 0 < n → Sound start P s → GotId start P s (literal_with f l s)
  unfolding literal_with
  literal_found n f fs l small s P ov deep h =
      value_found n f fs (lookup same_literal l s.constants.literals) (shape (scalar (literal_kind l))) (literal_op l) (enter_literal l) s P
      (λ i e. h.constants.literals l i (lookup_in same_literal l s.constants.literals i e)) (literal_writes s l small) (literal_keeps l) ov
      (free_grounded s.types (scalar (literal_kind l)) refl (small_literal_kind l)) deep h

  -- the inner type and the length
  inner_got_lem : (l : Shape) (f : Key → State → Got) (o : Option Key) (s : State) (P : List (ℕ × ℕ)) → Finds (rank_of l) f → Deeper o (rank_of l) → Over (rank_of l) P → GroundedIn s.types o
      → (id : ℕ) → Sound start ((rank_of l, id) ∷ P) s → GotPart start ((rank_of l, id) ∷ P) s (FitsIn (inner_got o f s).state.types o (inner_got o f s).id) (inner_ids o (inner_got o f s).id) (inner_got o f s)
  inner_got_lem l f None s P fs d o g id h = record { sound = h; grew = grew_refl s; fits = refl; low = omega arith; declared = λ u m. absurd (mathlib.Core.List.Memᴰ.not-nil m) }
  inner_got_lem l f (Some k) s P fs d o g id h =
      let r = fs k s ((rank_of l, id) ∷ P) d (d, over_less (rank k) (rank_of l) P d o) g h in
      record { sound = r.sound; grew = r.grew; fits = r.has; low = r.sound.bounded k (f k s).id r.has; declared = one_declared (f k s).id (f k s).state r.declared }

  length_got_lem : (l : Shape) (f : Key → State → Got) (o : Option ℕ) (s : State) (P : List (ℕ × ℕ)) → Finds (rank_of l) f → Inside o (rank_of l) → SmallLength o → Over (rank_of l) P
      → (id : ℕ) → Sound start ((rank_of l, id) ∷ P) s → GotPart start ((rank_of l, id) ∷ P) s (FitsLength o (length_got o f s).id) (length_ids o (length_got o f s).id) (length_got o f s)
  length_got_lem l f None s P fs d small o id h = record { sound = h; grew = grew_refl s; fits = refl; low = omega arith; declared = λ u m. absurd (mathlib.Core.List.Memᴰ.not-nil m) }
  length_got_lem l f (Some n) s P fs d small o id h =
      let r = literal_found (rank_of l) f fs (u32 n) small s ((rank_of l, id) ∷ P) (d, over_less 0 (rank_of l) P d o) d h in
      let g = literal_with f (u32 n) s in
      record { sound = r.sound; grew = r.grew; fits = tt; low = low ((rank_of l, id) ∷ P) g.state g.id r.sound r.declared; declared = one_declared g.id g.state r.declared }

  -- a new shape
  new_found : (f : Key → State → Got) (l : Shape) (s : State) (P : List (ℕ × ℕ)) → Finds (rank_of l) f → Over (rank_of l) P → Grounded s.types (shape l)
      → ((i : ℕ) → Memᴰ (shape l, i) s.types → ⊥) → Sound start P s → Found start P s (shape l) (new_key f (shape l) s)
  new_found f l s P fs o g new h =
      let id = suc s.last in
      let s₁ = enter (shape l) id (take_id s) in
      let w : Grew s s₁ = grew_trans (take_grew s) (enter_grew l id (take_id s)) in
      let in₁ : Memᴰ (shape l, id) s₁.types = last_in s.types (shape l, id) in
      let p = inner_got (inner l) f s₁ in
      let a = inner_got_lem l f (inner l) s₁ P fs (facts l).deeper o (inner_grounded s₁.types l (grounded_more w (shape l) g)) id (begin_sound start l P s new h) in
      let q = length_got (sized l) f p.state in
      let b = length_got_lem l f (sized l) p.state P fs (facts l).inside ((facts l).small-length g.small) o id a.sound in
      let d = type_of l id p.id q.id in
      let in₂ : Memᴰ (shape l, id) q.state.types = b.grew.more (shape l) id (a.grew.more (shape l) id in₁) in
      record {
        sound = shape_sound l id p.id q.id P q.state g.small (omega (arith, a.low, b.grew.up)) b.low in₂ (fits_grew b.grew (inner l) p.id a.fits) b.fits
            (both_declared (inner_ids (inner l) p.id) (length_ids (sized l) q.id) q.state (λ u m. omega (arith, a.declared u m, b.grew.still u)) b.declared) b.sound;
        grew = grew_trans w (grew_trans a.grew (grew_trans b.grew (with_grew (capabilities_of l) d q.state)));
        has = in₂;
        declared = just_declared id d q.state refl;
      }

  -- a key that is entered, or is not
  step : (f : Key → State → Got) (k : Key) (s : State) (P : List (ℕ × ℕ)) → Finds (rank k) f → Over (rank k) P → Grounded s.types k → Sound start P s
      → Found start P s k (or_new_key (lookup same_key k s.types) f k s)
  step f k s P fs o g h = go k fs o g (lookup same_key k s.types) refl
    where
      old : (k : Key) (i : ℕ) → Over (rank k) P → Memᴰ (k, i) s.types → 1 ≤ times i s.declarations
      old (entry k) i o m = h.handles k i m
      old (shape l) i o m = by (h.settled l i m)
        where
          by : Memᴰ (rank_of l, i) P ⊎ Settled s.types s.declarations l i → 1 ≤ times i s.declarations
          by (inl p) = absurd (not_over (rank_of l) i P p o)
          by (inr p) = settled_declared p

      go : (k : Key) → Finds (rank k) f → Over (rank k) P → Grounded s.types k → (a : Option ℕ) → lookup same_key k s.types ≡ a → Found start P s k (or_new_key a f k s)
      go k fs o g (Some i) e = let m = lookup_in same_key k s.types i e in record { sound = h; grew = grew_refl s; has = m; declared = old k i o m }
      go (entry k) fs o g None e = absurd (lookup_out same_key (entry k) s.types e g.0 g.1)
      go (shape l) fs o g None e = new_found f l s P fs o g (lookup_out same_key (shape l) s.types e) h

  pub find_at_found : (n : ℕ) → Finds (suc n) (find_at n)
  unfolding find_at
  find_at_found zero k s P d o g h = step _ k s P (λ k' s' P' d'. absurd (omega arith)) o g h
  find_at_found (suc n) k s P d o g h = step (find_at n) k s P (λ k' s' P' d'. find_at_found n k' s' P' (omega arith)) o g h

  pub find_found : (k : Key) (s : State) (P : List (ℕ × ℕ)) → Over (rank k) P → Grounded s.types k → Sound start P s → Found start P s k (find k s)
  unfolding find
  find_found k s P o g h = find_at_found (rank k) k s P (omega arith) o g h
