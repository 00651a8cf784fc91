-- Declaring a function type, a constant or a global keeps the state sound: each takes its id, finds what it names, and is declared
-- under that id. The rules are chains of operations, so each proof is the chain of their lemmas, with `Grew` carrying over what was
-- there before. A function record adds to the shared types alone (`Aside`), and void to them only where it returns void (`VoidsFor`).
-- The ids of a global and of its wrapper are fresh, so they carry nothing before their own decorations, no two of which are the same.
use Prim.Native.Nat.{ℕ, suc, zero, ◌/◌, ◌%◌, ◌<◌, ◌≤◌}
use mathlib.Core.Path.{◌≡◌, refl, ap, ◌∙◌, subst}
use mathlib.Core.Logic.{◌⊎◌, inl, inr, ⊎_elim}
use mathlib.Core.List.Memᴰ
use mathlib.Core.List.{List, [], ◌∷◌, ◌++◌, Memᴰ}
use Rattle.std.specs.Prelude.{Option, Some, None}
use mathlib.Core.Bool.{Bool, true, false, ◌&&◌}
use native.Mathlib.Omega.{arith}
use native.Mathlib.Decide.{ℕ_discrete}
use lib.Dec.{T, eqb, lit<, lit≤}
use lib.ListN.{length, replicate, length-replicate, length-append}
use Rattle.definition.specs.Choice.{or_else}
use Rattle.definition.specs.Numbers.{OpDecorate, OpMemberDecorate, DecorationBlock, DecorationNonWritable, DecorationNonReadable, DecorationBinding, DecorationDescriptorSet}
use Rattle.definition.specs.Instructions.{optional, name, decorate, type_struct, type_pointer, type_function, constant_composite, constant_null, variable}
use Rattle.definition.specs.Reader.{uses}
use Rattle.definition.specs.Sheet.{Options, Member, TypeInner, TypeEntry, Function, Expression, Global, Remap, storage_space}
use Rattle.definition.specs.Sheet.{Scalar, Vector, Matrix, Atomic, Pointer, ValuePointer, Array, Struct, Image, Sampler, AccelerationStructure, RayQuery, BindingArray}
use Rattle.definition.specs.Sheet.{Value, Alias, ZeroValue, Compose, Splat}
use Rattle.definition.specs.Tests.{Seen, inner_types, expression_types, init_list, expression_constants}
use Rattle.definition.specs.Shapes.{Kind, Key, same_key, storage_class, rank, bool, vector, pointer, binding_pointer, entry, shape}
use Rattle.definition.specs.State.{Composite, composite, function as function_key, void, same_composite, Valued, Constants, State, Got, lookup, take_id, annotate, declare_alone, entry_id, entry_ids}
use Rattle.definition.specs.Finding.{find, enter_composite, enter_null, composite_of, or_new_null, null_of}
use Rattle.definition.specs.Rules.{inner_at, label_if, annotate_if, block, or_new_type, shared_type, result_of, declare_function, no_value, value_at, ids_of, kind_of_scalar, GotValue, constant_of, enter_value, declare_constant, access_of, decorate_access, decorate_binding, is_bound, needs_wrapper, binding_base, remap_of, PointerForm, direct, in_wrapper, remapped, remapped_form, pointer_form_of, wrap, decorate_member, pointer_of, block_base, gets_null, GotInit, init_for, declare_global}
use Rattle.definition.specs.WellDeclared.{times, needs, times_decorated}
use Rattle.definition.proofs.Truth.{pick_for}
use Rattle.definition.proofs.Lists.{last_in, snoc_cases, same_itself, lookup_in, lookup_out, get_or_in}
use Rattle.definition.proofs.ByShape.{Formed, taken}
use Rattle.definition.proofs.Repeats.{carried_snoc, carried_other}
use Rattle.definition.proofs.Sizes.{W, Sized, under_more, SmallKind}
use Rattle.definition.proofs.Sound.{Sound, is_routine, routine_of, routine_sound, SmallOption, declared_snoc, take_sound, other_sound, constants_sound}
use Rattle.definition.proofs.Finding.{GotId, AllDeclared, Writes, Keeps, SmallLiteral, one_declared, more_declared, just_declared, Grew, grew_refl, grew_trans, declare_grew, take_grew, constants_grew, Over, Entered, Grounded, free_grounded, Found, Finds, find_found, value_found, literal_found, low, small_literal_kind}
use Rattle.definition.proofs.Marks.{GoodName, Taken, annotate_grew, annotate_if_grew, label_if_grew, once_grew, decorate_sound, decorate_if_sound, once_sound, name_kept, fresh_bare, label_if_notes, decorate_if_other}
use Rattle.definition.proofs.Inners.{GoodInner, GoodTypes, class_small, kind_small}
use Rattle.definition.proofs.Types.{Kept, Known, under_declared, member_kept}

-- ---- what is asked of constants and globals

abbrev pub GoodExpression : Expression → Type 0
GoodExpression (Value l) = SmallLiteral l
GoodExpression (Alias c) = Unit
GoodExpression (ZeroValue t) = Unit
GoodExpression (Compose t cs) = length cs ≤ 60000
GoodExpression (Splat n c) = n ≤ 255

-- the types that the types name have been read too
abbrev pub Referring : List TypeEntry → Type 0
Referring ts = (h b : ℕ) → Memᴰ b (inner_types (inner_at ts h)) → b < length ts

abbrev pub GoodRemaps : List Remap → Type 0
GoodRemaps [] = Unit
GoodRemaps (m ∷ ms) = (m.size ≤ W) × GoodRemaps ms

pub record GoodGlobal (g : Global) : Type 0 where
  pub name : GoodName g.name
  pub group : g.group ≤ W
  pub binding : g.binding ≤ W

-- so many types and constants have been read
pub record Read (m n : ℕ) (s : State) : Type 0 where
  pub types : Known m s
  pub constants : length s.constants.values ≡ n

pub read_more : {m n : ℕ} {s t : State} → Grew s t → Read m n s → Read m n t
read_more g r = record {
  types = record { all = λ h l. let q = r.types.all h l in (q.0, g.more (entry h) q.0 q.1); only = λ h i m. r.types.only h i (g.fresh h i m) };
  constants = ap length g.values ∙ r.constants;
}

small_scalar : (i : TypeInner) → GoodInner i → SmallOption (kind_of_scalar i)
small_scalar (Scalar k w) g = kind_small k w g
small_scalar (Vector n k w) g = tt
small_scalar (Matrix c r w) g = tt
small_scalar (Atomic k w) g = tt
small_scalar (Pointer b s a) g = tt
small_scalar (ValuePointer n k w s a) g = tt
small_scalar (Array b n d) g = tt
small_scalar (Struct n ms) g = tt
small_scalar (Image d a c x y) g = tt
small_scalar (Sampler c) g = tt
small_scalar AccelerationStructure g = tt
small_scalar RayQuery g = tt
small_scalar (BindingArray b n) g = tt

small_or_bool : (o : Option Kind) → SmallOption o → SmallKind (or_else bool o)
small_or_bool None h = tt
small_or_bool (Some k) h = h

-- the base of a BindingArray is a type that it names
abbrev BaseIn : TypeInner → Option ℕ → Type 0
BaseIn i None = Unit
BaseIn i (Some b) = Memᴰ b (inner_types i)

base_in_lem : (i : TypeInner) → BaseIn i (binding_base i)
base_in_lem (Scalar k w) = tt
base_in_lem (Vector n k w) = tt
base_in_lem (Matrix c r w) = tt
base_in_lem (Atomic k w) = tt
base_in_lem (Pointer b s a) = tt
base_in_lem (ValuePointer n k w s a) = tt
base_in_lem (Array b n d) = tt
base_in_lem (Struct n ms) = tt
base_in_lem (Image d a c x y) = tt
base_in_lem (Sampler c) = tt
base_in_lem AccelerationStructure = tt
base_in_lem RayQuery = tt
base_in_lem (BindingArray b n) = Memᴰ.head refl

abbrev SmallSize : Option ℕ → Type 0
SmallSize None = Unit
SmallSize (Some n) = n ≤ W

remap_small : (ms : List Remap) (g b : ℕ) → GoodRemaps ms → SmallSize (remap_of ms g b)
unfolding remap_of
remap_small [] g b h = tt
remap_small (m ∷ ms) g b h = pick_for SmallSize (eqb m.group g && eqb m.binding b) (Some m.size) (remap_of ms g b) h.0 (remap_small ms g b h.1)

-- a constant's id and kind
pub record GotGood (start : ℕ) (s : State) (g : GotValue) : Type 0 where
  pub sound : Sound start [] g.state
  pub grew : Grew s g.state
  pub declared : 1 ≤ times g.value.id g.state.declarations
  pub kind : SmallOption g.value.kind

pub record GotInitial (start : ℕ) (P : List (ℕ × ℕ)) (s : State) (g : GotInit) : Type 0 where
  pub sound : Sound start P g.state
  pub grew : Grew s g.state
  pub declared : AllDeclared (optional g.init) g.state

only_one : {types : List (Key × ℕ)} {b x : ℕ} → Memᴰ x (b ∷ []) → Entered types b → Entered types x
only_one m e = rw (Memᴰ.eq_of_singleton m) e

entered_more : {s t : State} {h : ℕ} → Grew s t → Entered s.types h → Entered t.types h
entered_more {h = h} g e = (e.0, g.more (entry h) e.0 e.1)

composite_keeps : (k : Key) (xs : List ℕ) → Keeps (enter_composite (composite k xs))
composite_keeps k xs = record {
  held = λ id c ds h old. record { literals = h.literals; composites = declared_snoc c.composites ds (composite k xs) id h.composites old; nulls = h.nulls; values = h.values };
  values = λ id c. refl;
  more = λ id c x i m. Memᴰ.append_left ((composite k xs, id) ∷ []) m;
  back = λ id c x i t m. back id c x i t (snoc_cases c.composites m);
}
  where
    back : (id : ℕ) (c : Constants) (x : Composite) (i : ℕ) → T (is_routine x) → Memᴰ (x, i) c.composites ⊎ (Path (Composite × ℕ) (x, i) (composite k xs, id)) → Memᴰ (x, i) c.composites
    back id c x i t (inl m) = m
    back id c x i t (inr q) = absurd (subst (λ (y : Composite). T (is_routine y)) (ap (λ (y : Composite × ℕ). y.0) q) t)

-- ---- function types

-- a function record enters no type or constant of the sheet, and what is shared stays so
pub record Aside (s t : State) : Type 0 where
  pub types : t.types ≡ s.types
  pub values : t.constants.values ≡ s.constants.values
  pub shared : (c : Composite) (i : ℕ) → Memᴰ (c, i) s.constants.composites → Memᴰ (c, i) t.constants.composites

aside_refl : (s : State) → Aside s s
aside_refl s = record { types = refl; values = refl; shared = λ c i m. m }

aside_trans : {s t u : State} → Aside s t → Aside t u → Aside s u
aside_trans g h = record { types = h.types ∙ g.types; values = h.values ∙ g.values; shared = λ c i m. h.shared c i (g.shared c i m) }

pub read_aside : {m n : ℕ} {s t : State} → Aside s t → Read m n s → Read m n t
read_aside g r = record {
  types = record { all = λ h l. rw g.types (r.types.all h l); only = λ h i m. r.types.only h i (rw g.types at m) };
  constants = ap length g.values ∙ r.constants;
}

-- void was entered before, or for a reason
abbrev pub VoidsFor : Type 0 → State → State → Type 0
VoidsFor A s t = (i : ℕ) → Memᴰ (void, i) t.constants.composites → Memᴰ (void, i) s.constants.composites ⊎ A

-- a function type or void that is found or declared
pub record GotShared (start : ℕ) (P : List (ℕ × ℕ)) (s : State) (c : Composite) (g : Got) : Type 0 where
  pub sound : Sound start P g.state
  pub aside : Aside s g.state
  pub has : Memᴰ (c, g.id) g.state.constants.composites
  pub declared : 1 ≤ times g.id g.state.declarations
  pub voids : VoidsFor (void ≡ c) s g.state

-- an id is that of a record's return type, and ids are those of its parameters
abbrev pub ResultIs : Option ℕ → State → ℕ → Type 0
ResultIs None s x = Memᴰ (void, x) s.constants.composites
ResultIs (Some t) s x = Memᴰ (entry t, x) s.types

abbrev pub AreIds : List ℕ → State → List ℕ → Type 0
AreIds [] s [] = Unit
AreIds [] s (x ∷ xs) = ⊥
AreIds (t ∷ ts) s [] = ⊥
AreIds (t ∷ ts) s (x ∷ xs) = Memᴰ (entry t, x) s.types × AreIds ts s xs

-- what a record returns
pub record GotResult (start : ℕ) (o : Option ℕ) (s : State) (g : Got) : Type 0 where
  pub sound : Sound start [] g.state
  pub aside : Aside s g.state
  pub declared : 1 ≤ times g.id g.state.declarations
  pub is : ResultIs o g.state g.id
  pub voids : VoidsFor (o ≡ None) s g.state

-- the function type of a record is entered
pub record Signed (f : Function) (s : State) : Type 0 where
  pub result : ℕ
  pub parameters : List ℕ
  pub id : ℕ
  pub returns : ResultIs f.result s result
  pub takes : AreIds f.parameters s parameters
  pub has : Memᴰ (function_key (result ∷ parameters), id) s.constants.composites

-- what is entered stays so
pub record Stays (s t : State) : Type 0 where
  pub more : (k : Key) (i : ℕ) → Memᴰ (k, i) s.types → Memᴰ (k, i) t.types
  pub shared : (c : Composite) (i : ℕ) → Memᴰ (c, i) s.constants.composites → Memᴰ (c, i) t.constants.composites

result_stays : {s t : State} → Stays s t → (o : Option ℕ) (x : ℕ) → ResultIs o s x → ResultIs o t x
result_stays g None x m = g.shared void x m
result_stays g (Some h) x m = g.more (entry h) x m

ids_stay : {s t : State} → Stays s t → (ts xs : List ℕ) → AreIds ts s xs → AreIds ts t xs
ids_stay g [] [] a = tt
ids_stay g [] (x ∷ xs) a = a
ids_stay g (t ∷ ts) [] a = a
ids_stay g (t ∷ ts) (x ∷ xs) a = (g.more (entry t) x a.0, ids_stay g ts xs a.1)

pub aside_stays : {s t : State} → Aside s t → Stays s t
aside_stays g = record { more = λ k i m. rw g.types m; shared = g.shared }

pub signed_stays : {s t : State} → Stays s t → (f : Function) → Signed f s → Signed f t
signed_stays g f h = record {
  result = h.result;
  parameters = h.parameters;
  id = h.id;
  returns = result_stays g f.result h.result h.returns;
  takes = ids_stay g f.parameters h.parameters h.takes;
  has = g.shared (function_key (h.result ∷ h.parameters)) h.id h.has;
}

-- a constant, declared
pub record ConstantKept (start m n : ℕ) (s t : State) : Type 0 where
  pub sound : Sound start [] t
  pub read : Read m (suc n) t
  pub stays : Stays s t
  pub routines : (c : Composite) (i : ℕ) → T (is_routine c) → Memᴰ (c, i) t.constants.composites → Memᴰ (c, i) s.constants.composites

-- a function record, declared
pub record FunctionKept (start : ℕ) (f : Function) (s t : State) : Type 0 where
  pub sound : Sound start [] t
  pub aside : Aside s t
  pub signed : Signed f t
  pub voids : VoidsFor (f.result ≡ None) s t

module _ (start : ℕ) where
  finds : Finds start 9 find
  finds k s P d = find_found start k s P

  composite_writes : (xs : List ℕ) (P : List (ℕ × ℕ)) (s : State) → length xs ≤ 60000 → AllDeclared xs s → Sound start P s → Writes s (λ t id. constant_composite t id xs)
  unfolding needs uses
  composite_writes xs P s few old h = record {
    result = λ t id. refl;
    formed = λ t id. taken tt;
    fits = λ last t id p q l. record { words = λ B w r. (omega arith, (omega arith, under_more s.last B xs (omega arith) (under_declared start P s xs h old))); short = omega arith };
    other = λ t id p. p;
    free = λ t id. refl;
    used = λ t id u m. used t u (Memᴰ.cases_cons m);
  }
    where
      used : (t u : ℕ) → (u ≡ t) ⊎ Memᴰ u xs → (u ≡ t) ⊎ (1 ≤ times u s.declarations)
      used t u (inl e) = inl e
      used t u (inr m) = inr (old u m)

  composite_found : (k : Key) (xs : List ℕ) (s : State) → length xs ≤ 60000 → AllDeclared xs s → rank k < 9 → Grounded s.types k → Sound start [] s → GotId start [] s (composite_of k xs s)
  unfolding composite_of
  composite_found k xs s few old deep gr h =
      value_found start 9 find finds (lookup same_composite (composite k xs) s.constants.composites) k (λ t id. constant_composite t id xs) (enter_composite (composite k xs)) s []
      (λ i e. h.constants.composites (composite k xs) i (lookup_in same_composite (composite k xs) s.constants.composites i e))
      (composite_writes xs [] s few old h) (composite_keeps k xs) tt gr deep h

  null_found : (t : ℕ) (s : State) (P : List (ℕ × ℕ)) → 1 ≤ times t s.declarations → Sound start P s → GotId start P s (null_of t s)
  unfolding null_of uses needs
  null_found t s P old h = go (lookup ℕ_discrete t s.constants.nulls) refl
    where
      go : (a : Option ℕ) → lookup ℕ_discrete t s.constants.nulls ≡ a → GotId start P s (or_new_null a t s)
      go (Some i) e = record { sound = h; grew = grew_refl s; declared = h.constants.nulls t i (lookup_in ℕ_discrete t s.constants.nulls i e) }
      go None e =
          let id = suc s.last in
          let d = constant_null t id in
          let u = declare_alone d (take_id s) in
          let new : 1 ≤ times id u.declarations = just_declared id d (take_id s) refl in
          let hu : Sound start P u = other_sound start id P (take_id s) d refl (taken tt)
          (record { words = λ B p q. (omega (arith, low start P s t h old), (omega arith, tt)); short = lit< tt }) (λ t. t) refl (one_declared t (take_id s) old) (take_sound start 9 P s h) in
          let c = u.constants in
          record {
            sound = constants_sound start (enter_null t id c) P u (record { literals = hu.constants.literals; composites = hu.constants.composites; nulls = declared_snoc c.nulls u.declarations t id hu.constants.nulls new; values = hu.constants.values }) (λ x i m. m) (λ x i t m. m) hu;
            grew = grew_trans (take_grew s) (grew_trans (declare_grew d (take_id s)) (constants_grew (enter_null t id c) u refl (λ x i m. m) (λ x i t m. m)));
            declared = new;
          }

  -- the null of a type that is entered
  zero_found : (t : ℕ) (s : State) (P : List (ℕ × ℕ)) → Over 0 P → Entered s.types t → Sound start P s → GotId start P s (let g = find (entry t) s in null_of g.id g.state)
  zero_found t s P o e h =
      let g = find (entry t) s in
      let q = find_found start (entry t) s P o e h in
      let z = null_found g.id g.state P q.declared q.sound in
      record { sound = z.sound; grew = grew_trans q.grew z.grew; declared = z.declared }

  -- ---- constants

  module _ (ts : List TypeEntry) (n : ℕ) (s : State) (gs : GoodTypes ts) (r : Read (length ts) n s) (h : Sound start [] s) where
    pub value_good : (c : ℕ) → c < n → (1 ≤ times (value_at s c).id s.declarations) × SmallOption (value_at s c).kind
    value_good c l = h.constants.values (value_at s c) (get_or_in s.constants.values c no_value (omega (arith, r.constants)))

    ids_good : (cs : List ℕ) → ((c : ℕ) → Memᴰ c cs → c < n) → AllDeclared (ids_of s cs) s × (length (ids_of s cs) ≡ length cs)
    unfolding ids_of
    ids_good [] l = (λ u e. absurd (Memᴰ.not-nil e), refl)
    ids_good (c ∷ cs) l =
        let q = ids_good cs (λ d e. l d (Memᴰ.tail e)) in
        (more_declared (value_at s c).id (ids_of s cs) s (value_good c (l c (Memᴰ.head refl))).0 q.0, ap suc q.1)

    replicate_declared : (k x : ℕ) → 1 ≤ times x s.declarations → AllDeclared (replicate k x) s
    replicate_declared zero x l = λ u e. absurd (Memᴰ.not-nil e)
    replicate_declared (suc k) x l = more_declared x (replicate k x) s l (replicate_declared k x l)

    constant_found : (e : Expression) → GoodExpression e → ((t : ℕ) → Memᴰ t (expression_types e) → t < length ts) → ((c : ℕ) → Memᴰ c (expression_constants e) → c < n) → GotGood start s (constant_of ts e s)
    unfolding constant_of
    constant_found (Value l) g rt rc =
        let q = literal_found start 9 find finds l g s [] tt (lit< tt) h in
        record { sound = q.sound; grew = q.grew; declared = q.declared; kind = small_literal_kind l }
    constant_found (Alias c) g rt rc = let v = value_good c (rc c (Memᴰ.head refl)) in record { sound = h; grew = grew_refl s; declared = v.0; kind = v.1 }
    constant_found (ZeroValue t) g rt rc =
        let q = zero_found t s [] tt (r.types.all t (rt t (Memᴰ.head refl))) h in
        record { sound = q.sound; grew = q.grew; declared = q.declared; kind = small_scalar (inner_at ts t) (gs t) }
    constant_found (Compose t cs) g rt rc =
        let p = ids_good cs rc in
        let q = composite_found (entry t) (ids_of s cs) s (omega (arith, p.1)) p.0 (lit< tt) (r.types.all t (rt t (Memᴰ.head refl))) h in
        record { sound = q.sound; grew = q.grew; declared = q.declared; kind = tt }
    constant_found (Splat k c) g rt rc =
        let v = value_good c (rc c (Memᴰ.head refl)) in
        let l = vector k (or_else bool (value_at s c).kind) in
        let q = composite_found (shape l) (replicate k (value_at s c).id) s (omega (arith, length-replicate k (value_at s c).id)) (replicate_declared k (value_at s c).id v.0) (lit< tt)
        (free_grounded s.types l refl (omega arith, small_or_bool (value_at s c).kind v.1)) h in
        record { sound = q.sound; grew = q.grew; declared = q.declared; kind = tt }

  value_entered : (v : Valued) (s : State) → 1 ≤ times v.id s.declarations → SmallOption v.kind → Sound start [] s → Sound start [] (enter_value v s)
  value_entered v s old small h =
      constants_sound start (enter_value v s).constants [] s (record { literals = h.constants.literals; composites = h.constants.composites; nulls = h.constants.nulls; values = λ w m. go w (snoc_cases s.constants.values m) }) (λ x i m. m) (λ x i t m. m) h
    where
      go : (w : Valued) → Memᴰ w s.constants.values ⊎ (w ≡ v) → (1 ≤ times w.id s.declarations) × SmallOption w.kind
      go w (inl m) = h.constants.values w m
      go w (inr e) = rw e (old, small)

  -- ---- function types

  -- one that is found or declared
  shared_got : (c : Composite) (P : List (ℕ × ℕ)) (s : State) → T (is_routine c) → Formed (routine_of c (suc s.last)) → Sized (suc s.last) (routine_of c (suc s.last))
      → ((u : ℕ) → Memᴰ u (uses (routine_of c (suc s.last))) → 1 ≤ times u s.declarations) → Sound start P s → GotShared start P s c (shared_type c (routine_of c) s)
  unfolding shared_type
  shared_got c P s is fd fits used h = go (lookup same_composite c s.constants.composites) refl
    where
      go : (o : Option ℕ) → lookup same_composite c s.constants.composites ≡ o → GotShared start P s c (or_new_type o c (routine_of c) s)
      go (Some i) e = let m = lookup_in same_composite c s.constants.composites i e in record { sound = h; aside = aside_refl s; has = m; declared = h.constants.composites c i m; voids = λ j n. inl n }
      go None e =
          let id = suc s.last in
          let hv = routine_sound start c P s is (lookup_out same_composite c s.constants.composites e) fd fits used h in
          let has = last_in s.constants.composites (c, id) in
          record {
            sound = hv;
            aside = record { types = refl; values = refl; shared = λ x i m. Memᴰ.append_left ((c, id) ∷ []) m };
            has = has;
            declared = hv.constants.composites c id has;
            voids = λ j m. ⊎_elim inl (λ q. inr (ap (λ (y : Composite × ℕ). y.0) q)) (snoc_cases s.constants.composites m);
          }

  entry_id_lem : (t : ℕ) (s : State) → Entered s.types t → Memᴰ (entry t, entry_id s t) s.types
  entry_id_lem t s e = go (lookup same_key (entry t) s.types) refl
    where
      go : (a : Option ℕ) → lookup same_key (entry t) s.types ≡ a → Memᴰ (entry t, or_else 0 a) s.types
      go None f = absurd (lookup_out same_key (entry t) s.types f e.0 e.1)
      go (Some i) f = lookup_in same_key (entry t) s.types i f

  entry_ids_lem : (ts : List ℕ) (s : State) → ((t : ℕ) → Memᴰ t ts → Entered s.types t) → AreIds ts s (entry_ids s ts) × (length (entry_ids s ts) ≡ length ts)
  unfolding entry_ids
  entry_ids_lem [] s k = (tt, refl)
  entry_ids_lem (t ∷ ts) s k = let q = entry_ids_lem ts s (λ u m. k u (Memᴰ.tail m)) in ((entry_id_lem t s (k t (Memᴰ.head refl)), q.0), ap suc q.1)

  ids_declared : (ts xs : List ℕ) (s : State) (P : List (ℕ × ℕ)) → AreIds ts s xs → Sound start P s → AllDeclared xs s
  ids_declared [] [] s P a h = λ u m. absurd (Memᴰ.not-nil m)
  ids_declared [] (x ∷ xs) s P a h = absurd a
  ids_declared (t ∷ ts) [] s P a h = absurd a
  ids_declared (t ∷ ts) (x ∷ xs) s P a h = more_declared x xs s (h.handles t x a.0) (ids_declared ts xs s P a.1 h)

  result_got : (o : Option ℕ) (s : State) → ((t : ℕ) → Memᴰ t (init_list o) → Entered s.types t) → Sound start [] s → GotResult start o s (result_of o s)
  unfolding uses
  result_got None s k h =
      let r = shared_got void [] s tt (taken tt) (record { words = λ B p q. (omega arith, tt); short = lit< tt }) (λ u m. absurd (Memᴰ.not-nil m)) h in
      record { sound = r.sound; aside = r.aside; declared = r.declared; is = r.has; voids = λ i m. inr refl }
  result_got (Some t) s k h =
      let m = entry_id_lem t s (k t (Memᴰ.head refl)) in
      record { sound = h; aside = aside_refl s; declared = h.handles t (entry_id s t) m; is = m; voids = λ i n. inl n }

  pub function_kept : (ts : List TypeEntry) (f : Function) (s : State) → length f.parameters ≤ 255 → ((t : ℕ) → Memᴰ t (init_list f.result ++ f.parameters) → t < length ts) → Known (length ts) s → Sound start [] s
      → FunctionKept start f s (declare_function f s)
  unfolding declare_function uses
  function_kept ts f s few refs k h =
      let r = result_of f.result s in
      let q = result_got f.result s (λ t m. k.all t (refs t (Memᴰ.append_left f.parameters m))) h in
      let xs = entry_ids r.state f.parameters in
      let p = entry_ids_lem f.parameters r.state (λ t m. rw q.aside.types (k.all t (refs t (Memᴰ.append_right (init_list f.result) m)))) in
      let ids = r.id ∷ xs in
      let old : AllDeclared ids r.state = more_declared r.id xs r.state q.declared (ids_declared f.parameters xs r.state [] p.0 q.sound) in
      let c = function_key ids in
      let g = shared_got c [] r.state tt (taken tt)
      (record { words = λ B w l. (omega arith, under_more r.state.last B ids (omega arith) (under_declared start [] r.state ids q.sound old)); short = omega (arith, p.1) }) old q.sound in
      let w = aside_stays g.aside in
      record {
        sound = g.sound;
        aside = aside_trans q.aside g.aside;
        signed = record {
          result = r.id;
          parameters = xs;
          id = (shared_type c (λ i. type_function i ids) r.state).id;
          returns = result_stays w f.result r.id q.is;
          takes = ids_stay w f.parameters xs p.0;
          has = g.has;
        };
        voids = λ i m. ⊎_elim (q.voids i) (λ e. let z : ◌≡◌ {A = ℕ} 0 1 = cc in absurd (omega arith)) (g.voids i m);
      }

  -- ---- globals

  access_kept : (o : Option ℕ) (id : ℕ) (P : List (ℕ × ℕ)) (s : State) → Taken id P s → ((d : ℕ) → times_decorated id d s.annotations ≡ 0) → Sound start P s → Kept start P s (decorate_access o id s)
  access_kept None id P s t new h = record { sound = h; grew = grew_refl s }
  access_kept (Some a) id P s t new h =
      let d = decorate id DecorationNonReadable [] in
      let b = annotate_if (eqb (a % 2) 0) d s in
      let w = annotate_if_grew (eqb (a % 2) 0) d s in
      let hb = decorate_if_sound start id P (eqb (a % 2) 0) DecorationNonReadable s (lit≤ tt) t (new DecorationNonReadable) h in
      record {
        sound = decorate_if_sound start id P (eqb (a / 2 % 2) 0) DecorationNonWritable b (lit≤ tt) (omega (arith, w.still id)) (decorate_if_other (eqb (a % 2) 0) id DecorationNonWritable DecorationNonReadable s refl ∙ new DecorationNonWritable) hb;
        grew = grew_trans w (annotate_if_grew (eqb (a / 2 % 2) 0) (decorate id DecorationNonWritable []) b);
      }

  access_other : (o : Option ℕ) (id d : ℕ) (s : State) → eqb d DecorationNonReadable ≡ false → eqb d DecorationNonWritable ≡ false → times_decorated id d (decorate_access o id s).annotations ≡ times_decorated id d s.annotations
  access_other None id d s e f = refl
  access_other (Some a) id d s e f =
      decorate_if_other (eqb (a / 2 % 2) 0) id d DecorationNonWritable (annotate_if (eqb (a % 2) 0) (decorate id DecorationNonReadable []) s) f ∙ decorate_if_other (eqb (a % 2) 0) id d DecorationNonReadable s e

  binding_kept : (b : Bool) (g : Global) (id : ℕ) (P : List (ℕ × ℕ)) (s : State) → GoodGlobal g → Taken id P s → times_decorated id DecorationDescriptorSet s.annotations ≡ 0 → times_decorated id DecorationBinding s.annotations ≡ 0 → Sound start P s
      → Kept start P s (decorate_binding b g id s)
  binding_kept false g id P s k t set binding h = record { sound = h; grew = grew_refl s }
  binding_kept true g id P s k t set binding h =
      let d = decorate id DecorationDescriptorSet (g.group ∷ []) in
      let a = annotate d s in
      let ha = decorate_sound start id P DecorationDescriptorSet (g.group ∷ []) s (lit≤ tt) (k.group, tt) (lit≤ tt) t set h in
      let f = carried_other OpDecorate (id ∷ []) DecorationBinding DecorationDescriptorSet [] (g.group ∷ []) s.annotations refl in
      record {
        sound = decorate_sound start id P DecorationBinding (g.binding ∷ []) a (lit≤ tt) (k.binding, tt) (lit≤ tt) t (f ∙ binding) ha;
        grew = grew_trans (annotate_grew d s) (annotate_grew (decorate id DecorationBinding (g.binding ∷ [])) a);
      }

  wrap_found : (ts : List TypeEntry) (t class : ℕ) (s : State) (P : List (ℕ × ℕ)) → GoodTypes ts → class ≤ W → Over 0 P → Entered s.types t → Sound start P s → GotId start P s (wrap ts t class s)
  unfolding uses needs
  wrap_found ts t class s P gs cw o e h =
      let w = suc s.last in
      let m : Member = record { type = t; offset = 0; name = None } in
      let a = annotate (block w) (take_id s) in
      let Q : List (ℕ × ℕ) = (9, w) ∷ P in
      let bare = fresh_bare start P s h in
      let ha = decorate_sound start w Q DecorationBlock [] (take_id s) (lit≤ tt) tt (lit≤ tt) (omega (arith, same_itself w)) (bare.on_id (DecorationBlock ∷ [])) (take_sound start 9 P s h) in
      let b = decorate_member false ts w 0 m a in
      let kb = member_kept start false ts w 0 m Q a gs (lit≤ tt, tt) (lit≤ tt) (omega (arith, same_itself w))
      (λ d. omega (arith, carried_snoc OpMemberDecorate (w ∷ 0 ∷ d ∷ []) s.annotations (block w), bare.on_members (0 ∷ d ∷ []))) ha in
      let f = find (entry t) b in
      let r : Found start Q b (entry t) f = find_found start (entry t) b Q (lit< tt, o) (entered_more kb.grew e) kb.sound in
      let d = type_struct w (f.id ∷ []) in
      let u = declare_alone d f.state in
      let up : w ≤ f.state.last = omega (arith, kb.grew.up, r.grew.up) in
      let hu : Sound start P u = other_sound start w P f.state d refl (taken tt)
      (record { words = λ B p q. (omega arith, (omega (arith, low start Q f.state f.id r.sound r.declared), tt)); short = lit< tt }) (λ t. t) refl (one_declared f.id f.state r.declared) r.sound in
      let p = suc u.last in
      let d₂ = type_pointer p class w in
      let old : 1 ≤ times w u.declarations = just_declared w d f.state refl in
      record {
        sound = other_sound start p P (take_id u) d₂ refl (taken tt)
            (record { words = λ B x q. (omega arith, (omega arith, (omega arith, tt))); short = lit< tt }) (λ t. t) refl (one_declared w (take_id u) old) (take_sound start 9 P u hu);
        grew = grew_trans (take_grew s) (grew_trans (annotate_grew (block w) (take_id s)) (grew_trans kb.grew (grew_trans r.grew (grew_trans (declare_grew d f.state) (grew_trans (take_grew u) (declare_grew d₂ (take_id u)))))));
        declared = just_declared p d₂ (take_id u) refl;
      }

  -- what a form asks
  abbrev GoodForm : List (Key × ℕ) → PointerForm → Type 0
  GoodForm types direct = Unit
  GoodForm types in_wrapper = Unit
  GoodForm types (remapped b n) = Entered types b × (n ≤ W)

  form_good : (ts : List TypeEntry) (s : State) → Referring ts → Known (length ts) s → (t : ℕ) (o : Option ℕ) (n : Option ℕ) → BaseIn (inner_at ts t) o → SmallSize n → GoodForm s.types (remapped_form o n)
  form_good ts s rf k t None n b m = tt
  form_good ts s rf k t (Some b) None i m = tt
  form_good ts s rf k t (Some b) (Some n) i m = (k.all b (rf t b i), m)

  pointer_found : (w : PointerForm) (ts : List TypeEntry) (g : Global) (s : State) (P : List (ℕ × ℕ)) → GoodTypes ts → GoodForm s.types w → Over 0 P → Over 1 P → Over 2 P → Entered s.types g.type → Sound start P s
      → GotId start P s (pointer_of w ts g s)
  pointer_found direct ts g s P gs gw o o₁ o₂ e h =
      let r = find_found start (shape (pointer g.type (storage_class g.space))) s P o₁ (record { entered = λ x m. only_one m e; small = class_small g.space }) h in
      record { sound = r.sound; grew = r.grew; declared = r.declared }
  pointer_found in_wrapper ts g s P gs gw o o₁ o₂ e h = wrap_found ts g.type (storage_class g.space) s P gs (class_small g.space) o e h
  pointer_found (remapped b n) ts g s P gs gw o o₁ o₂ e h =
      let r = find_found start (shape (binding_pointer b n g.space g.access)) s P o₂ (record { entered = λ x m. only_one m gw.0; small = (gw.1, class_small g.space) }) h in
      record { sound = r.sound; grew = r.grew; declared = r.declared }

  abbrev BaseEntered : List (Key × ℕ) → Option ℕ → Type 0
  BaseEntered types None = Unit
  BaseEntered types (Some b) = Entered types b

  block_kept : (b : Bool) (o : Option ℕ) (s : State) (P : List (ℕ × ℕ)) → Over 0 P → BaseEntered s.types o → Sound start P s → Kept start P s (block_base b o s)
  block_kept false o s P ov e h = record { sound = h; grew = grew_refl s }
  block_kept true None s P ov e h = record { sound = h; grew = grew_refl s }
  block_kept true (Some t) s P ov e h =
      let f = find (entry t) s in
      let r = find_found start (entry t) s P ov e h in
      record {
        sound = once_sound start f.id P f.state (omega (arith, r.declared)) r.sound;
        grew = grew_trans r.grew (once_grew f.id f.state);
      }

  init_found : (i : Option ℕ) (b : Bool) (t : ℕ) (s : State) (P : List (ℕ × ℕ)) → Over 0 P → Entered s.types t → ((c : ℕ) → Memᴰ c (init_list i) → 1 ≤ times (value_at s c).id s.declarations) → Sound start P s
      → GotInitial start P s (init_for i b t s)
  init_found (Some c) b t s P o e v h = record { sound = h; grew = grew_refl s; declared = one_declared (value_at s c).id s (v c (Memᴰ.head refl)) }
  init_found None false t s P o e v h = record { sound = h; grew = grew_refl s; declared = λ u m. absurd (Memᴰ.not-nil m) }
  init_found None true t s P o e v h =
      let f = find (entry t) s in
      let z = null_of f.id f.state in
      let q = zero_found t s P o e h in
      record { sound = q.sound; grew = q.grew; declared = one_declared z.id z.state q.declared }

  -- the variable itself, after its pointer and its initializer
  variable_sound : (id p class : ℕ) (i : Option ℕ) (s : State) → class ≤ W → id ≤ s.last → 1 ≤ times p s.declarations → AllDeclared (optional i) s → Sound start ((9, id) ∷ []) s → Sound start [] (declare_alone (variable p id class i) s)
  unfolding uses needs
  variable_sound id p class None s cw lid old v h =
      other_sound start id [] s (variable p id class None) refl (taken tt)
      (record { words = λ B x q. (omega (arith, low start ((9, id) ∷ []) s p h old), (omega arith, (omega arith, tt))); short = lit< tt }) (λ t. t) refl (one_declared p s old) h
  variable_sound id p class (Some i) s cw lid old v h =
      other_sound start id [] s (variable p id class (Some i)) refl (taken tt)
      (record { words = λ B x q. (omega (arith, low start ((9, id) ∷ []) s p h old), (omega arith, (omega arith, (omega (arith, low start ((9, id) ∷ []) s i h (v i (Memᴰ.head refl))), tt)))); short = lit< tt }) (λ t. t) refl
      (more_declared p (i ∷ []) s old v) h

  pub global_kept : (o : Options) (n : Seen) (g : Global) (s : State) → GoodTypes n.types → Referring n.types → GoodRemaps n.remaps → GoodGlobal g → g.type < length n.types
      → ((c : ℕ) → Memᴰ c (init_list g.init) → c < length n.constants) → Read (length n.types) (length n.constants) s → Sound start [] s → Kept start [] s (declare_global o n g s)
  unfolding declare_global
  global_kept o n g s gs rf rm gg lt lc rd h =
      let ts = n.types in
      let id = suc s.last in
      let P : List (ℕ × ℕ) = (9, id) ∷ [] in
      let s₁ = label_if o.debug (name id) g.name (take_id s) in
      let w₁ = label_if_grew o.debug (name id) g.name (take_id s) in
      let h₁ = name_kept start id P o.debug g.name (take_id s) gg.name (omega (arith, same_itself id)) (take_sound start 9 [] s h) in
      let s₂ = decorate_access (access_of ts g) id s₁ in
      let bare : (d : ℕ) → times_decorated id d s₁.annotations ≡ 0 = λ d. ap (times_decorated id d) (label_if_notes o.debug (name id) g.name (take_id s)) ∙ (fresh_bare start [] s h).on_id (d ∷ []) in
      let k₂ = access_kept (access_of ts g) id P s₁ (omega (arith, same_itself id)) bare h₁ in
      let s₃ = decorate_binding (is_bound g) g id s₂ in
      let k₃ = binding_kept (is_bound g) g id P s₂ gg (omega (arith, same_itself id)) (access_other (access_of ts g) id DecorationDescriptorSet s₁ refl refl ∙ bare DecorationDescriptorSet) (access_other (access_of ts g) id DecorationBinding s₁ refl refl ∙ bare DecorationBinding) k₂.sound in
      let w : Grew s s₃ = grew_trans (take_grew s) (grew_trans w₁ (grew_trans k₂.grew k₃.grew)) in
      let r₃ = read_more w rd in
      let e₃ = r₃.types.all g.type lt in
      let base = base_in_lem (inner_at ts g.type) in
      let gw : GoodForm s₃.types (pointer_form_of n g) = pick_for (GoodForm s₃.types) (needs_wrapper ts g) in_wrapper _ tt
      (pick_for (GoodForm s₃.types) (is_bound g) _ direct (form_good ts s₃ rf r₃.types g.type (binding_base (inner_at ts g.type)) (remap_of n.remaps g.group g.binding) base (remap_small n.remaps g.group g.binding rm)) tt) in
      let p = pointer_of (pointer_form_of n g) ts g s₃ in
      let q = pointer_found (pointer_form_of n g) ts g s₃ P gs gw (lit< tt, tt) (lit< tt, tt) (lit< tt, tt) e₃ k₃.sound in
      let b = binding_base (inner_at ts g.type) in
      let s₄ = block_base (eqb g.space storage_space) b p.state in
      let k₄ = block_kept (eqb g.space storage_space) b p.state P (lit< tt, tt) (base_entered ts p.state rf (read_more q.grew r₃).types g.type b base) q.sound in
      let w₄ = grew_trans w (grew_trans q.grew k₄.grew) in
      let r₄ = read_more w₄ rd in
      let z = init_for g.init (gets_null o g) g.type s₄ in
      let i = init_found g.init (gets_null o g) g.type s₄ P (lit< tt, tt) (r₄.types.all g.type lt)
      (λ c m. value_declared s₄ k₄.sound c (omega (arith, lc c m, r₄.constants))) k₄.sound in
      record {
        sound = variable_sound id p.id (storage_class g.space) z.init z.state (class_small g.space) (omega (arith, w.up, w₁.up, k₂.grew.up, k₃.grew.up, q.grew.up, k₄.grew.up, i.grew.up))
            (omega (arith, q.declared, k₄.grew.still p.id, i.grew.still p.id)) i.declared i.sound;
        grew = grew_trans w₄ (grew_trans i.grew (declare_grew (variable p.id id (storage_class g.space) z.init) z.state));
      }
    where
      base_entered : (ts : List TypeEntry) (s : State) → Referring ts → Known (length ts) s → (t : ℕ) (o : Option ℕ) → BaseIn (inner_at ts t) o → BaseEntered s.types o
      base_entered ts s rf k t None b = tt
      base_entered ts s rf k t (Some x) b = k.all x (rf t x b)

      value_declared : (s : State) {P : List (ℕ × ℕ)} → Sound start P s → (c : ℕ) → c < length s.constants.values → 1 ≤ times (value_at s c).id s.declarations
      value_declared s h c l = (h.constants.values (value_at s c) (get_or_in s.constants.values c no_value l)).0

  pub constant_kept : (ts : List TypeEntry) (n : ℕ) (e : Expression) (s : State) → GoodTypes ts → GoodExpression e → ((t : ℕ) → Memᴰ t (expression_types e) → t < length ts) → ((c : ℕ) → Memᴰ c (expression_constants e) → c < n)
      → Read (length ts) n s → Sound start [] s → ConstantKept start (length ts) n s (declare_constant ts e s)
  unfolding declare_constant
  constant_kept ts n e s gs g rt rc rd h =
      let q = constant_found ts n s gs rd h e g rt rc in
      let v = constant_of ts e s in
      let r = read_more q.grew rd in
      record {
        sound = value_entered v.value v.state q.declared q.kind q.sound;
        read = record { types = record { all = r.types.all; only = r.types.only }; constants = omega (arith, length-append v.state.constants.values (v.value ∷ []), r.constants) };
        stays = record { more = q.grew.more; shared = q.grew.shared };
        routines = q.grew.routines;
      }
