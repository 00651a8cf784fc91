-- Declaring a type keeps the state sound: a shape is found; an aggregate takes its id, finds what it names, and is declared under
-- that id; the entry's own key comes last. A fresh id carries nothing, and each member's decorations leave the later members bare
-- (`Noted`, `Open`) and the id too, so nothing is put on them twice.
use Prim.Native.Nat.{ℕ, suc, zero, ◌+◌, ◌<◌, ◌≤◌}
use mathlib.Core.Path.{◌≡◌, refl, ap, ◌∙◌}
use mathlib.Core.Logic.{◌⊎◌, inl, inr}
use mathlib.Core.List.Memᴰ
use mathlib.Core.List.{List, [], ◌∷◌, ◌++◌, Memᴰ}
use Rattle.std.specs.Prelude.{Option, Some, None}
use mathlib.Core.Bool.{Bool, false}
use native.Mathlib.Omega.{arith}
use native.Mathlib.Decide.{ℕ_discrete}
use lib.Dec.{T, eqb, lit<, lit≤}
use lib.ListN.{length}
use borrow.Author.Tests.{ne_eqb}
use Rattle.definition.specs.Numbers.{OpDecorate, OpMemberDecorate, DecorationBlock, DecorationColMajor, DecorationArrayStride, DecorationMatrixStride, DecorationOffset}
use Rattle.definition.specs.Literals.{u32}
use Rattle.definition.specs.Instructions.{name, member_name, decorate, member_decorate, type_array, type_runtime_array, type_struct}
use Rattle.definition.specs.Reader.{uses}
use Rattle.definition.specs.Sheet.{Member, TypeInner, TypeEntry}
use Rattle.definition.specs.Sheet.{Scalar, Vector, Matrix, Atomic, Pointer, ValuePointer, Array, Struct, Image, Sampler, AccelerationStructure, RayQuery, BindingArray}
use Rattle.definition.specs.Tests.{inner_types, member_types}
use Rattle.definition.specs.Shapes.{Shape, Key, same_key, shape_of, entry, shape}
use Rattle.definition.specs.State.{Composite, State, Got, got, lookup, take_id, enter, annotate}
use Rattle.definition.specs.Finding.{or_new_key, find_at, find, literal}
use Rattle.definition.specs.Rules.{inner_at, matrix_stride, element_of, stride_member, label_if, decorate_member, GotAll, declare_members, any_dynamic, annotate_if, block, declare_array, declare_struct, declare_aggregate, declare_inner, declare_type}
use Rattle.definition.specs.WellDeclared.{times, needs, carries, carried, times_member_decorated}
use Rattle.definition.proofs.Lists.{last_in, snoc_cases, same_itself}
use Rattle.definition.proofs.ByShape.{taken}
use Rattle.definition.proofs.Repeats.{carried_snoc, carries_other, carried_other}
use Rattle.definition.proofs.Sizes.{W, Under, under_more}
use Rattle.definition.proofs.Sound.{Sound, is_routine, take_sound, entry_sound, other_sound}
use Rattle.definition.proofs.Finding.{AllDeclared, one_declared, more_declared, just_declared, Grew, grew_refl, grew_trans, declare_grew, take_grew, Entered, Found, find_found, literal_found, low}
use Rattle.definition.proofs.Marks.{GoodName, Taken, annotate_grew, annotate_if_grew, label_if_grew, decorate_sound, member_sound, decorate_if_sound, name_kept, member_name_kept, Bare, fresh_bare, label_if_notes}
use Rattle.definition.proofs.Inners.{GoodMembers, GoodInner, GoodTypes, SmallStride, member_stride, shape_facts}

-- ids that are declared are at most the last one taken
pub under_declared : (start : ℕ) (P : List (ℕ × ℕ)) (s : State) (xs : List ℕ) → Sound start P s → AllDeclared xs s → Under s.last xs
under_declared start P s [] h g = tt
under_declared start P s (x ∷ xs) h g = (low start P s x h (g x (Memᴰ.head refl)), under_declared start P s xs h (λ u m. g u (Memᴰ.tail m)))

pub record GotMembers (start : ℕ) (P : List (ℕ × ℕ)) (s : State) (n : ℕ) (g : GotAll) : Type 0 where
  pub sound : Sound start P g.state
  pub grew : Grew s g.state
  pub declared : AllDeclared g.ids g.state
  pub count : length g.ids ≡ n
  pub same : (ks : List ℕ) → carried OpDecorate ks g.state.annotations ≡ carried OpDecorate ks s.annotations

-- ---- what members' decorations leave as it is

-- member i is decorated: a count to which no decoration of that member adds stays as it is
abbrev Noted : ℕ → ℕ → State → State → Type 0
Noted id i s t = (o : ℕ) (ks : List ℕ) → ((d : ℕ) (ws : List ℕ) → carries o ks (member_decorate id i d ws) ≡ 0) → carried o ks t.annotations ≡ carried o ks s.annotations

one_noted : (id i d : ℕ) (ws : List ℕ) (s : State) → Noted id i s (annotate (member_decorate id i d ws) s)
one_noted id i d ws s o ks e = omega (arith, carried_snoc o ks s.annotations (member_decorate id i d ws), e d ws)

stride_noted : (n : Option ℕ) (id i : ℕ) (s : State) → Noted id i s (stride_member n id i s)
stride_noted None id i s o ks e = refl
stride_noted (Some n) id i s o ks e = one_noted id i DecorationMatrixStride (n ∷ []) (annotate (member_decorate id i DecorationColMajor []) s) o ks e ∙ one_noted id i DecorationColMajor [] s o ks e

member_noted : (debug : Bool) (ts : List TypeEntry) (id i : ℕ) (m : Member) (s : State) → Noted id i s (decorate_member debug ts id i m s)
member_noted debug ts id i m s o ks e =
    let a = annotate (member_decorate id i DecorationOffset (m.offset ∷ [])) s in
    let b = label_if debug (member_name id i) m.name a in
    let f = stride_noted (matrix_stride (element_of ts (inner_at ts m.type))) id i b o ks e in
    f ∙ ap (carried o ks) (label_if_notes debug (member_name id i) m.name a) ∙ one_noted id i DecorationOffset (m.offset ∷ []) s o ks e

-- finding an entry decorates nothing
entry_notes : (h : ℕ) (s : State) → (find (entry h) s).state.annotations ≡ s.annotations
unfolding find find_at
entry_notes h s = go (lookup same_key (entry h) s.types)
  where
    go : (o : Option ℕ) → (or_new_key o (λ k s. got 0 s) (entry h) s).state.annotations ≡ s.annotations
    go None = refl
    go (Some i) = refl

-- no member from i on is decorated yet
abbrev Open : ℕ → ℕ → State → Type 0
Open id i s = (m d : ℕ) → i ≤ m → times_member_decorated id m d s.annotations ≡ 0

-- a step that keeps the state sound and adds to it
pub record Kept (start : ℕ) (P : List (ℕ × ℕ)) (s t : State) : Type 0 where
  pub sound : Sound start P t
  pub grew : Grew s t

-- an aggregate, declared under its id
pub record Aggregated (start id : ℕ) (s t : State) : Type 0 where
  pub sound : Sound start [] t
  pub grew : Grew s t
  pub declared : 1 ≤ times id t.declarations

-- the types with the first indexes are entered, and no other
pub record Known (n : ℕ) (s : State) : Type 0 where
  pub all : (h : ℕ) → h < n → Entered s.types h
  pub only : (h i : ℕ) → Memᴰ (entry h, i) s.types → h < n

-- an entry of a shape has the shape's id
abbrev pub HasShapeId : ℕ → Shape → List (Key × ℕ) → Type 0
HasShapeId n l types = (i : ℕ) × Memᴰ (entry n, i) types × Memᴰ (shape l, i) types

abbrev pub Told : ℕ → Option Shape → List (Key × ℕ) → Type 0
Told n None types = Unit
Told n (Some l) types = HasShapeId n l types

pub record Done (start n : ℕ) (t : TypeEntry) (s u : State) : Type 0 where
  pub sound : Sound start [] u
  pub more : (k : Key) (i : ℕ) → Memᴰ (k, i) s.types → Memᴰ (k, i) u.types
  pub values : u.constants.values ≡ s.constants.values
  pub known : Known (suc n) u
  pub told : Told n (shape_of t.inner) u.types
  pub shared : (c : Composite) (i : ℕ) → Memᴰ (c, i) s.constants.composites → Memᴰ (c, i) u.constants.composites
  pub routines : (c : Composite) (i : ℕ) → T (is_routine c) → Memᴰ (c, i) u.constants.composites → Memᴰ (c, i) s.constants.composites

pub told_more : (n : ℕ) (o : Option Shape) (xs ys : List (Key × ℕ)) → ((k : Key) (i : ℕ) → Memᴰ (k, i) xs → Memᴰ (k, i) ys) → Told n o xs → Told n o ys
told_more n None xs ys f t = tt
told_more n (Some l) xs ys f t = (t.0, f (entry n) t.0 t.1, f (shape l) t.0 t.2)

module _ (start : ℕ) where
  -- ---- members

  pub stride_kept : (o : Option ℕ) (id i : ℕ) (P : List (ℕ × ℕ)) (s : State) → SmallStride o → i ≤ W → Taken id P s → ((d : ℕ) → eqb d DecorationOffset ≡ false → times_member_decorated id i d s.annotations ≡ 0) → Sound start P s
      → Kept start P s (stride_member o id i s)
  stride_kept None id i P s small iw t new h = record { sound = h; grew = grew_refl s }
  stride_kept (Some n) id i P s small iw t new h =
      let a = annotate (member_decorate id i DecorationColMajor []) s in
      let g = member_sound start id P i DecorationColMajor [] s iw (lit≤ tt) tt (lit≤ tt) t (new DecorationColMajor refl) h in
      let f = carried_other OpMemberDecorate (id ∷ i ∷ []) DecorationMatrixStride DecorationColMajor [] [] s.annotations refl in
      record {
        sound = member_sound start id P i DecorationMatrixStride (n ∷ []) a iw (lit≤ tt) (small, tt) (lit≤ tt) t (f ∙ new DecorationMatrixStride refl) g;
        grew = grew_trans (annotate_grew (member_decorate id i DecorationColMajor []) s) (annotate_grew (member_decorate id i DecorationMatrixStride (n ∷ [])) a);
      }

  pub member_kept : (debug : Bool) (ts : List TypeEntry) (id i : ℕ) (m : Member) (P : List (ℕ × ℕ)) (s : State) → GoodTypes ts → (m.offset ≤ W) × GoodName m.name → i ≤ W → Taken id P s → ((d : ℕ) → times_member_decorated id i d s.annotations ≡ 0) → Sound start P s
      → Kept start P s (decorate_member debug ts id i m s)
  member_kept debug ts id i m P s gs g iw t new h =
      let d = member_decorate id i DecorationOffset (m.offset ∷ []) in
      let a = annotate d s in
      let ha = member_sound start id P i DecorationOffset (m.offset ∷ []) s iw (lit≤ tt) (g.0, tt) (lit≤ tt) t (new DecorationOffset) h in
      let b = label_if debug (member_name id i) m.name a in
      let wb = label_if_grew debug (member_name id i) m.name a in
      let hb = member_name_kept start id P debug i m.name a iw g.1 t ha in
      let r = stride_kept (matrix_stride (element_of ts (inner_at ts m.type))) id i P b (member_stride ts gs m.type) iw (omega (arith, wb.still id))
      (λ e f. ap (times_member_decorated id i e) (label_if_notes debug (member_name id i) m.name a) ∙ carried_other OpMemberDecorate (id ∷ i ∷ []) e DecorationOffset [] (m.offset ∷ []) s.annotations f ∙ new e) hb in
      record { sound = r.sound; grew = grew_trans (annotate_grew d s) (grew_trans wb r.grew) }

  members_found : (debug : Bool) (ts : List TypeEntry) (id i : ℕ) (ms : List Member) (s : State) → GoodTypes ts → GoodMembers ms → i + length ms ≤ 255 → Open id i s
      → ((b : ℕ) → Memᴰ b (member_types ms) → Entered s.types b) → Sound start ((9, id) ∷ []) s → GotMembers start ((9, id) ∷ []) s (length ms) (declare_members debug ts id i ms s)
  unfolding declare_members member_types
  members_found debug ts id i [] s gs g few new known h = record { sound = h; grew = grew_refl s; declared = λ u m. absurd (Memᴰ.not-nil m); count = refl; same = λ ks. refl }
  members_found debug ts id i (m ∷ ms) s gs g few new known h =
      let P : List (ℕ × ℕ) = (9, id) ∷ [] in
      let a = decorate_member debug ts id i m s in
      let k = member_kept debug ts id i m P s gs g.0 (omega arith) (omega (arith, same_itself id)) (λ d. new i d (omega arith)) h in
      let e₀ = known m.type (Memᴰ.head refl) in
      let f = find (entry m.type) a in
      let r : Found start P a (entry m.type) f = find_found start (entry m.type) a P (lit< tt, tt) (e₀.0, k.grew.more (entry m.type) e₀.0 e₀.1) k.sound in
      let w = grew_trans k.grew r.grew in
      let noted : Noted id i s f.state = λ o ks e. ap (carried o ks) (entry_notes m.type a) ∙ member_noted debug ts id i m s o ks e in
      let later : Open id (suc i) f.state = λ n d l. noted OpMemberDecorate (id ∷ n ∷ d ∷ []) (λ e ws. carries_other OpMemberDecorate (id ∷ []) n i (d ∷ []) (e ∷ ws) (ne_eqb n i (λ x. omega arith))) ∙ new n d (omega arith) in
      let rest = declare_members debug ts id (suc i) ms f.state in
      let q : GotMembers start P f.state (length ms) rest = members_found debug ts id (suc i) ms f.state gs g.1 (omega arith) later (λ b e. let z = known b (Memᴰ.tail e) in (z.0, w.more (entry b) z.0 z.1)) r.sound in
      record {
        sound = q.sound;
        grew = grew_trans w q.grew;
        declared = more_declared f.id rest.ids rest.state (omega (arith, r.declared, q.grew.still f.id)) q.declared;
        count = ap suc q.count;
        same = λ ks. q.same ks ∙ noted OpDecorate ks (λ d ws. refl);
      }

  -- ---- aggregates

  array_sound : (n id : ℕ) (base : Got) → n ≤ W → id ≤ base.state.last → Sound start ((9, id) ∷ []) base.state → 1 ≤ times base.id base.state.declarations → Aggregated start id base.state (declare_array n id base)
  unfolding uses needs
  array_sound zero id base small lid h old =
      let d = type_runtime_array id base.id in
      let P : List (ℕ × ℕ) = (9, id) ∷ [] in
      record {
        sound = other_sound start id [] base.state d refl (taken tt)
            (record { words = λ B p q. (omega arith, (omega (arith, low start P base.state base.id h old), tt)); short = lit< tt }) (λ t. t) refl (one_declared base.id base.state old) h;
        grew = declare_grew d base.state;
        declared = just_declared id d base.state refl;
      }
  array_sound (suc n) id base small lid h old =
      let P : List (ℕ × ℕ) = (9, id) ∷ [] in
      let c = literal (u32 (suc n)) base.state in
      let r = literal_found start 9 find (λ k s P d. find_found start k s P) (u32 (suc n)) small base.state P (lit< tt, tt) (lit< tt) h in
      let d = type_array id base.id c.id in
      let b₂ : 1 ≤ times base.id c.state.declarations = omega (arith, r.grew.still base.id) in
      record {
        sound = other_sound start id [] c.state d refl (taken tt)
            (record { words = λ B p q. (omega (arith, r.grew.up), (omega (arith, low start P c.state base.id r.sound b₂), (omega (arith, low start P c.state c.id r.sound r.declared), tt))); short = lit< tt }) (λ t. t) refl
            (more_declared base.id (c.id ∷ []) c.state b₂ (one_declared c.id c.state r.declared)) r.sound;
        grew = grew_trans r.grew (declare_grew d c.state);
        declared = just_declared id d c.state refl;
      }

  struct_sound : (debug : Bool) (ts : List TypeEntry) (id : ℕ) (ms : List Member) (s : State) → GoodTypes ts → GoodMembers ms → length ms ≤ 255 → ((b : ℕ) → Memᴰ b (member_types ms) → Entered s.types b)
      → id ≤ s.last → Bare id s → Sound start ((9, id) ∷ []) s → Aggregated start id s (declare_struct debug ts id ms s)
  unfolding uses needs
  struct_sound debug ts id ms s gs g few known lid bare h =
      let P : List (ℕ × ℕ) = (9, id) ∷ [] in
      let r = declare_members debug ts id 0 ms s in
      let q = members_found debug ts id 0 ms s gs g (omega arith) (λ m d l. bare.on_members (m ∷ d ∷ [])) known h in
      let a = annotate_if (any_dynamic ts ms) (block id) r.state in
      let w = annotate_if_grew (any_dynamic ts ms) (block id) r.state in
      let ha = decorate_if_sound start id P (any_dynamic ts ms) DecorationBlock r.state (lit≤ tt) (omega (arith, same_itself id)) (q.same (id ∷ DecorationBlock ∷ []) ∙ bare.on_id (DecorationBlock ∷ [])) q.sound in
      let d = type_struct id r.ids in
      let u : AllDeclared r.ids a = λ x m. omega (arith, q.declared x m, w.still x) in
      record {
        sound = other_sound start id [] a d refl (taken tt)
            (record { words = λ B p l. (omega (arith, q.grew.up, w.up), under_more a.last B r.ids (omega arith) (under_declared start P a r.ids ha u)); short = omega (arith, q.count) }) (λ t. t) refl u ha;
        grew = grew_trans q.grew (grew_trans w (declare_grew d a));
        declared = just_declared id d a refl;
      }

  aggregate_sound : (debug : Bool) (ts : List TypeEntry) (i : TypeInner) (id : ℕ) (s : State) → shape_of i ≡ None → GoodTypes ts → GoodInner i → ((b : ℕ) → Memᴰ b (inner_types i) → Entered s.types b)
      → id ≤ s.last → Bare id s → Sound start ((9, id) ∷ []) s → Aggregated start id s (declare_aggregate debug ts i id s)
  aggregate_sound debug ts (Scalar k w) id s e gs g known lid bare h = let z : ◌≡◌ {A = ℕ} 0 1 = cc in absurd (omega arith)
  aggregate_sound debug ts (Vector n k w) id s e gs g known lid bare h = let z : ◌≡◌ {A = ℕ} 0 1 = cc in absurd (omega arith)
  aggregate_sound debug ts (Matrix c r w) id s e gs g known lid bare h = let z : ◌≡◌ {A = ℕ} 0 1 = cc in absurd (omega arith)
  aggregate_sound debug ts (Atomic k w) id s e gs g known lid bare h = let z : ◌≡◌ {A = ℕ} 0 1 = cc in absurd (omega arith)
  aggregate_sound debug ts (Pointer b p a) id s e gs g known lid bare h = let z : ◌≡◌ {A = ℕ} 0 1 = cc in absurd (omega arith)
  aggregate_sound debug ts (ValuePointer n k w p a) id s e gs g known lid bare h = let z : ◌≡◌ {A = ℕ} 0 1 = cc in absurd (omega arith)
  aggregate_sound debug ts (Array b n d) id s e gs g known lid bare h =
      let P : List (ℕ × ℕ) = (9, id) ∷ [] in
      let a = annotate (decorate id DecorationArrayStride (d ∷ [])) s in
      let ha = decorate_sound start id P DecorationArrayStride (d ∷ []) s (lit≤ tt) (g.1, tt) (lit≤ tt) (omega (arith, same_itself id)) (bare.on_id (DecorationArrayStride ∷ [])) h in
      let f = find (entry b) a in
      let r = find_found start (entry b) a P (lit< tt, tt) (known b (Memᴰ.head refl)) ha in
      let q = array_sound n id f g.0 (omega (arith, r.grew.up)) r.sound r.declared in
      record { sound = q.sound; grew = grew_trans (annotate_grew (decorate id DecorationArrayStride (d ∷ [])) s) (grew_trans r.grew q.grew); declared = q.declared }
  aggregate_sound debug ts (Struct n ms) id s e gs g known lid bare h = struct_sound debug ts id ms s gs g.0 g.1 known lid bare h
  aggregate_sound debug ts (Image d a c x y) id s e gs g known lid bare h = let z : ◌≡◌ {A = ℕ} 0 1 = cc in absurd (omega arith)
  aggregate_sound debug ts (Sampler c) id s e gs g known lid bare h = let z : ◌≡◌ {A = ℕ} 0 1 = cc in absurd (omega arith)
  aggregate_sound debug ts AccelerationStructure id s e gs g known lid bare h = let z : ◌≡◌ {A = ℕ} 0 1 = cc in absurd (omega arith)
  aggregate_sound debug ts RayQuery id s e gs g known lid bare h = let z : ◌≡◌ {A = ℕ} 0 1 = cc in absurd (omega arith)
  aggregate_sound debug ts (BindingArray b n) id s e gs g known lid bare h =
      let P : List (ℕ × ℕ) = (9, id) ∷ [] in
      let f = find (entry b) s in
      let r = find_found start (entry b) s P (lit< tt, tt) (known b (Memᴰ.head refl)) h in
      let q = array_sound n id f g (omega (arith, r.grew.up)) r.sound r.declared in
      record { sound = q.sound; grew = grew_trans r.grew q.grew; declared = q.declared }

  -- ---- a type

  -- the first indexes, one more entered
  known_suc : (n id : ℕ) (s t : State) → Known n s → Grew s t → Known (suc n) (enter (entry n) id t)
  known_suc n id s t k g = record { all = λ h l. all h (ℕ_discrete h n) l; only = λ h i m. only h i (snoc_cases t.types m) }
    where
      all : (h : ℕ) → Dec (h ≡ n) → h < suc n → Entered (t.types ++ (entry n, id) ∷ []) h
      all h (yes e) l = rw e (id, last_in t.types (entry n, id))
      all h (no e) l = let q = k.all h (omega arith) in (q.0, Memᴰ.append_left ((entry n, id) ∷ []) (g.more (entry h) q.0 q.1))

      only : (h i : ℕ) → Memᴰ (entry h, i) t.types ⊎ (Path (Key × ℕ) (entry h, i) (entry n, id)) → h < suc n
      only h i (inl m) = omega (arith, k.only h i (g.fresh h i m))
      only h i (inr q) = let p : entry h ≡ entry n = ap (λ (y : Key × ℕ). y.0) q in let e : h ≡ n = cc in omega arith

  -- the entry's own key, and its name
  finish : (debug : Bool) (n id : ℕ) (t : TypeEntry) (s u : State) → GoodName t.name → Known n s → Grew s u → 1 ≤ times id u.declarations
      → Told n (shape_of t.inner) (u.types ++ (entry n, id) ∷ []) → Sound start [] u → Done start n t s (label_if debug (name id) t.name (enter (entry n) id u))
  finish debug n id t s u gn k g old told h =
      let e = enter (entry n) id u in
      let he = entry_sound start n id [] u (λ i m. let z = k.only n i (g.fresh n i m) in omega arith) old (low start [] u id h old) h in
      let w = label_if_grew debug (name id) t.name e in
      record {
        sound = name_kept start id [] debug t.name e gn (omega arith) he;
        more = λ k i m. w.more k i (Memᴰ.append_left ((entry n, id) ∷ []) (g.more k i m));
        values = w.values ∙ g.values;
        shared = λ c i m. w.shared c i (g.shared c i m);
        routines = λ c i t m. g.routines c i t (w.routines c i t m);
        known = known_more (known_suc n id s u k g) w;
        told = told_more n (shape_of t.inner) e.types (label_if debug (name id) t.name e).types w.more told;
      }
    where
      known_more : {n : ℕ} {a b : State} → Known n a → Grew a b → Known n b
      known_more k w = record { all = λ h l. let q = k.all h l in (q.0, w.more (entry h) q.0 q.1); only = λ h i m. k.only h i (w.fresh h i m) }

  pub type_done : (debug : Bool) (ts : List TypeEntry) (t : TypeEntry) (s : State) → GoodTypes ts → GoodInner t.inner → GoodName t.name → ((b : ℕ) → Memᴰ b (inner_types t.inner) → b < length ts)
      → Known (length ts) s → Sound start [] s → Done start (length ts) t s (declare_type debug ts t s)
  unfolding declare_type
  type_done debug ts t s gs g gn refs k h = go (shape_of t.inner) refl
    where
      n : ℕ
      n = length ts

      go : (o : Option Shape) → shape_of t.inner ≡ o
          → Done start (length ts) t s (label_if debug (name (declare_inner debug ts o t.inner s).id) t.name (enter (entry (length ts)) (declare_inner debug ts o t.inner s).id (declare_inner debug ts o t.inner s).state))
      go (Some l) e =
          let f = find (shape l) s in
          let z = shape_facts t.inner l g e in
          let r = find_found start (shape l) s [] tt (record { entered = λ b m. k.all b (refs b (z.references b m)); small = z.small }) h in
          finish debug (length ts) f.id t s f.state gn k r.grew r.declared
          (rw e (f.id, last_in f.state.types (entry (length ts), f.id), Memᴰ.append_left ((entry (length ts), f.id) ∷ []) r.has)) r.sound
      go None e =
          let id = suc s.last in
          let u = declare_aggregate debug ts t.inner id (take_id s) in
          let q = aggregate_sound debug ts t.inner id (take_id s) e gs g (λ b m. k.all b (refs b m)) (omega arith) (fresh_bare start [] s h) (take_sound start 9 [] s h) in
          finish debug (length ts) id t s u gn k (grew_trans (take_grew s) q.grew) q.declared (rw e tt) q.sound
