-- What holds of the state at every moment (`Sound`), and that every operation on the state keeps it. Ids are counted, not chased: how
-- often an id is declared, plus how often it is pending, plus 1 if it lies up to the start, is 1 exactly up to the last id. Pending
-- ids, taken and not yet declared, carry the nesting rank of their shape.
use Prim.Native.Nat.{ℕ, suc, ◌+◌, ◌<◌, ◌≤◌, min}
use mathlib.Core.Path.{◌≡◌, refl, sym, ap, ◌∙◌, subst}
use mathlib.Core.Logic.{◌⊎◌, inl, inr}
use mathlib.Core.List.Memᴰ
use mathlib.Core.List.{List, [], ◌∷◌, ◌++◌, Memᴰ}
use Rattle.std.specs.Prelude.{Option, Some, None}
use mathlib.Core.Bool.{Bool, true, false, not}
use native.Mathlib.Omega.{arith}
use lib.Dec.{T, leb}
use borrow.Author.Tests.{leb-true, leb-false}
use Rattle.definition.specs.Choice.{among}
use Rattle.definition.specs.Numbers.{OpTypeVoid, OpTypeFunction}
use Rattle.definition.specs.Instructions.{Instruction, type_void, type_function}
use Rattle.definition.specs.Reader.{uses}
use Rattle.definition.specs.Shapes.{Kind, Shape, Key, inner, sized, rank_of, opcode_of, type_of, entry, shape}
use Rattle.definition.specs.Shapes.{sint, uint, float, bool, scalar, vector, matrix, pointer, value_pointer, image, sampler, acceleration_structure, ray_query, binding_array, binding_pointer}
use Rattle.definition.specs.State.{Composite, composite, function, void, Valued, Constants, State, same, occurrences, take_id, enter, with_constants, annotate, label, declare_alone, declare_with, empty}
use Rattle.definition.specs.Rules.{or_new_type}
use Rattle.definition.specs.WellDeclared.{times, once, Above, NoEqualTypes, EqualTypes, needs, needed, plain_type, targets, marks, carried}
use Rattle.definition.proofs.Lists.{last_in, targets-append, snoc_cases, same_itself, up_to, up_to_in, up_to_out, up_to_suc, times_snoc, times_in, above_snoc, equal_types_snoc, listed_count, needed_snoc, table_bounded, table_unique}
use Rattle.definition.proofs.Repeats.{Single}
use Rattle.definition.proofs.Sizes.{Sized, sized_up, SmallKind}
use Rattle.definition.proofs.ByShape.{FitsIn, FitsLength, Formed, facts}

-- ids that are taken and not yet declared, each with how deep its shape nests
abbrev pub pending : ℕ → List (ℕ × ℕ) → ℕ
pending i [] = 0
pending i (p ∷ ps) = same i p.1 + pending i ps

-- a shape that is entered is declared
pub record Settled (types : List (Key × ℕ)) (ds : List Instruction) (l : Shape) (i : ℕ) : Type 0 where
  pub x : ℕ
  pub y : ℕ
  pub fits : FitsIn types (inner l) x
  pub length : FitsLength (sized l) y
  pub declared : Memᴰ (type_of l i x y) ds

-- a type that is declared is entered
pub record Spelt (types : List (Key × ℕ)) (d : Instruction) : Type 0 where
  pub l : Shape
  pub id : ℕ
  pub x : ℕ
  pub y : ℕ
  pub spells : d ≡ type_of l id x y
  pub entered : Memᴰ (shape l, id) types
  pub fits : FitsIn types (inner l) x

-- types that are shared by what they name alone: functions and void
abbrev pub is_routine : Composite → Bool
is_routine (composite k xs) = false
is_routine (function xs) = true
is_routine void = true

abbrev pub routine_of : Composite → ℕ → Instruction
routine_of (composite k xs) id = type_void id
routine_of (function xs) id = type_function id xs
routine_of void id = type_void id

-- one that is declared is entered
pub record Routine (cs : List (Composite × ℕ)) (d : Instruction) : Type 0 where
  pub c : Composite
  pub id : ℕ
  pub is : T (is_routine c)
  pub spells : d ≡ routine_of c id
  pub entered : Memᴰ (c, id) cs

pub routine_result : (c : Composite) (id : ℕ) → (routine_of c id).result ≡ Some id
routine_result (composite k xs) id = refl
routine_result (function xs) id = refl
routine_result void id = refl

routine_free : (c : Composite) (id : ℕ) → needs (routine_of c id) ≡ []
unfolding needs
routine_free (composite k xs) id = refl
routine_free (function xs) id = refl
routine_free void id = refl

pub routine_same : (a b : Composite) (i j : ℕ) → T (is_routine a) → T (is_routine b) → (routine_of a i).opcode ≡ (routine_of b j).opcode → (routine_of a i).operands ≡ (routine_of b j).operands → a ≡ b
routine_same (composite k xs) b i j p q e f = absurd p
routine_same (function xs) (composite k ys) i j p q e f = absurd q
routine_same (function xs) (function ys) i j p q e f = ap function f
routine_same (function xs) void i j p q e f = absurd (omega (arith, e))
routine_same void (composite k ys) i j p q e f = absurd q
routine_same void (function ys) i j p q e f = absurd (omega (arith, e))
routine_same void void i j p q e f = refl

-- no shape is one
abbrev not_routine : ℕ → Bool
not_routine o = not (among o (OpTypeVoid ∷ OpTypeFunction ∷ []))

shape_opcode : (l : Shape) → T (not_routine (opcode_of l))
shape_opcode (scalar (sint w)) = tt
shape_opcode (scalar (uint w)) = tt
shape_opcode (scalar (float w)) = tt
shape_opcode (scalar bool) = tt
shape_opcode (vector n k) = tt
shape_opcode (matrix c r w) = tt
shape_opcode (pointer b c) = tt
shape_opcode (value_pointer n k c) = tt
shape_opcode (image k d p a m s f) = tt
shape_opcode sampler = tt
shape_opcode acceleration_structure = tt
shape_opcode ray_query = tt
shape_opcode (binding_array b n) = tt
shape_opcode (binding_pointer b n s a) = tt

pub not_shape : (l : Shape) (c : Composite) (id : ℕ) → T (is_routine c) → (routine_of c id).opcode ≡ opcode_of l → ⊥
not_shape l (composite k xs) id t e = t
not_shape l (function xs) id t e = subst (λ (o : ℕ). T (not_routine o)) (sym e) (shape_opcode l)
not_shape l void id t e = subst (λ (o : ℕ). T (not_routine o)) (sym e) (shape_opcode l)

-- a name or a decoration
pub record Note (last : ℕ) (d : Instruction) : Type 0 where
  pub formed : Formed d
  pub silent : d.result ≡ None
  pub marking : T (marks d.opcode)
  pub fits : Sized last d

note_up : (last : ℕ) (d : Instruction) → Note last d → Note (suc last) d
note_up last d n = record { formed = n.formed; silent = n.silent; marking = n.marking; fits = sized_up last (suc last) d (omega arith) n.fits }

-- names or decorations, on ids that are taken
pub record Notes (start last : ℕ) (xs : List Instruction) : Type 0 where
  pub on : (t : ℕ) → Memᴰ t (targets xs) → (start < t) × (t ≤ last)
  pub notes : (d : Instruction) → Memᴰ d xs → Note last d

notes_up : (start last : ℕ) (xs : List Instruction) → Notes start last xs → Notes start (suc last) xs
notes_up start last xs n = record { on = λ t m. ((n.on t m).0, omega (arith, (n.on t m).1)); notes = λ d m. note_up last d (n.notes d m) }

notes_snoc : (start last : ℕ) (xs : List Instruction) (d : Instruction) → Note last d → ((t : ℕ) → Memᴰ t (targets (d ∷ [])) → (start < t) × (t ≤ last)) → Notes start last xs → Notes start last (xs ++ d ∷ [])
notes_snoc start last xs d note here n = record {
  on = λ t m. on t (Memᴰ.append_cases (targets xs) (rw (targets-append xs (d ∷ [])) at m));
  notes = λ j m. notes j (snoc_cases xs m);
}
  where
    on : (t : ℕ) → Memᴰ t (targets xs) ⊎ Memᴰ t (targets (d ∷ [])) → (start < t) × (t ≤ last)
    on t (inl m) = n.on t m
    on t (inr m) = here t m

    notes : (j : Instruction) → Memᴰ j xs ⊎ (j ≡ d) → Note last j
    notes j (inl m) = n.notes j m
    notes j (inr q) = rw q note

pub record Declaration (last : ℕ) (d : Instruction) : Type 0 where
  pub formed : Formed d
  pub id : ℕ
  pub result : d.result ≡ Some id
  pub fits : Sized last d

declaration_up : (last : ℕ) (d : Instruction) → Declaration last d → Declaration (suc last) d
declaration_up last d h = record { formed = h.formed; id = h.id; result = h.result; fits = sized_up last (suc last) d (omega arith) h.fits }

-- the tables of constants hold ids that are declared
abbrev pub Declared : {A : Type 0} → List (A × ℕ) → List Instruction → Type 0
Declared {A} xs ds = (a : A) (i : ℕ) → Memᴰ (a, i) xs → 1 ≤ times i ds

abbrev pub SmallOption : Option Kind → Type 0
SmallOption None = Unit
SmallOption (Some k) = SmallKind k

pub record Held (c : Constants) (ds : List Instruction) : Type 0 where
  pub literals : Declared c.literals ds
  pub composites : Declared c.composites ds
  pub nulls : Declared c.nulls ds
  pub values : (v : Valued) → Memᴰ v c.values → (1 ≤ times v.id ds) × SmallOption v.kind

-- one more in a table
pub declared_snoc : {A : Type 0} (xs : List (A × ℕ)) (ds : List Instruction) (a : A) (i : ℕ) → Declared xs ds → 1 ≤ times i ds → Declared (xs ++ (a, i) ∷ []) ds
declared_snoc {A} xs ds a i h old b j m = go (snoc_cases xs m)
  where
    go : Memᴰ (b, j) xs ⊎ (Path (A × ℕ) (b, j) (a, i)) → 1 ≤ times j ds
    go (inl n) = h b j n
    go (inr q) = rw (ap (λ (y : A × ℕ). y.1) q) old

pub record Sound (start : ℕ) (P : List (ℕ × ℕ)) (s : State) : Type 0 where
  pub ids : (i : ℕ) → times i s.declarations + pending i P + up_to start i ≡ up_to s.last i
  pub above : Above [] s.declarations
  pub apart : NoEqualTypes s.declarations
  pub caps : (c : ℕ) → occurrences c s.capabilities ≡ min 1 (needed c s.declarations)
  pub names : Notes start s.last s.names
  pub annotations : Notes start s.last s.annotations
  pub single : Single s.names s.annotations
  pub bounded : (k : Key) (i : ℕ) → Memᴰ (k, i) s.types → i ≤ s.last
  pub unique : (k : Key) (i j : ℕ) → Memᴰ (k, i) s.types → Memᴰ (k, j) s.types → i ≡ j
  pub injective : (l m : Shape) (i : ℕ) → Memᴰ (shape l, i) s.types → Memᴰ (shape m, i) s.types → l ≡ m
  pub handles : (h i : ℕ) → Memᴰ (entry h, i) s.types → 1 ≤ times i s.declarations
  pub settled : (l : Shape) (i : ℕ) → Memᴰ (shape l, i) s.types → Memᴰ (rank_of l, i) P ⊎ Settled s.types s.declarations l i
  pub spelt : (d : Instruction) → Memᴰ d s.declarations → T (plain_type d.opcode) → Spelt s.types d ⊎ Routine s.constants.composites d
  pub routines : (c : Composite) (i : ℕ) → T (is_routine c) → Memᴰ (c, i) s.constants.composites → Memᴰ (routine_of c i) s.declarations
  pub constants : Held s.constants s.declarations
  pub formed : (d : Instruction) → Memᴰ d s.declarations → Declaration s.last d

pub fits_more : (types : List (Key × ℕ)) (e : Key × ℕ) (o : Option Key) (x : ℕ) → FitsIn types o x → FitsIn (types ++ e ∷ []) o x
fits_more types e None x f = f
fits_more types e (Some k) x f = Memᴰ.append_left (e ∷ []) f

settled_more : (types : List (Key × ℕ)) (e : Key × ℕ) (ds : List Instruction) (l : Shape) (i : ℕ) → Settled types ds l i → Settled (types ++ e ∷ []) ds l i
settled_more types e ds l i h = record { x = h.x; y = h.y; length = h.length; fits = fits_more types e (inner l) h.x h.fits; declared = h.declared }

settled_later : (types : List (Key × ℕ)) (ds : List Instruction) (d : Instruction) (l : Shape) (i : ℕ) → Settled types ds l i → Settled types (ds ++ d ∷ []) l i
settled_later types ds d l i h = record { x = h.x; y = h.y; length = h.length; fits = h.fits; declared = Memᴰ.append_left (d ∷ []) h.declared }

spelt_more : (types : List (Key × ℕ)) (e : Key × ℕ) (d : Instruction) → Spelt types d → Spelt (types ++ e ∷ []) d
spelt_more types e d h = record { l = h.l; id = h.id; x = h.x; y = h.y; spells = h.spells; entered = Memᴰ.append_left (e ∷ []) h.entered; fits = fits_more types e (inner h.l) h.x h.fits }

plain_more : (types : List (Key × ℕ)) (e : Key × ℕ) (cs : List (Composite × ℕ)) (d : Instruction) → Spelt types d ⊎ Routine cs d → Spelt (types ++ e ∷ []) d ⊎ Routine cs d
plain_more types e cs d (inl h) = inl (spelt_more types e d h)
plain_more types e cs d (inr r) = inr r

plain_later : (types : List (Key × ℕ)) (cs ds : List (Composite × ℕ)) (d : Instruction) → ((x : Composite) (i : ℕ) → Memᴰ (x, i) cs → Memᴰ (x, i) ds) → Spelt types d ⊎ Routine cs d → Spelt types d ⊎ Routine ds d
plain_later types cs ds d f (inl h) = inl h
plain_later types cs ds d f (inr r) = inr (record { c = r.c; id = r.id; is = r.is; spells = r.spells; entered = f r.c r.id r.entered })

held_later : (c : Constants) (ds : List Instruction) (d : Instruction) → Held c ds → Held c (ds ++ d ∷ [])
held_later c ds d h = record {
  literals = λ a i m. omega (arith, h.literals a i m, times_snoc i ds d);
  composites = λ a i m. omega (arith, h.composites a i m, times_snoc i ds d);
  nulls = λ a i m. omega (arith, h.nulls a i m, times_snoc i ds d);
  values = λ v m. (omega (arith, (h.values v m).0, times_snoc v.id ds d), (h.values v m).1);
}

pub later : (i : ℕ) (ds : List Instruction) (d : Instruction) → 1 ≤ times i ds → 1 ≤ times i (ds ++ d ∷ [])
later i ds d h = omega (arith, times_snoc i ds d)

pub settled_declared : {types : List (Key × ℕ)} {ds : List Instruction} {l : Shape} {i : ℕ} → Settled types ds l i → 1 ≤ times i ds
settled_declared {types} {ds} {l} {i} h = omega (arith, times_in i h.declared, same_itself i)

module _ (start : ℕ) where
  pub start_sound : Sound start [] (empty start)
  unfolding times occurrences needed targets carried
  start_sound = record {
    ids = λ i. omega arith;
    above = tt;
    apart = tt;
    caps = λ c. refl;
    names = record { on = λ t m. absurd (Memᴰ.not-nil m); notes = λ d m. absurd (Memᴰ.not-nil m) };
    annotations = record { on = λ t m. absurd (Memᴰ.not-nil m); notes = λ d m. absurd (Memᴰ.not-nil m) };
    single = record { named = λ d m. absurd (Memᴰ.not-nil m); at_most_once = λ o ks l. omega arith };
    routines = λ c i t m. absurd (Memᴰ.not-nil m);
    bounded = λ k i m. absurd (Memᴰ.not-nil m);
    unique = λ k i j m. absurd (Memᴰ.not-nil m);
    injective = λ l m i e. absurd (Memᴰ.not-nil e);
    handles = λ h i m. absurd (Memᴰ.not-nil m);
    settled = λ l i m. absurd (Memᴰ.not-nil m);
    spelt = λ d m. absurd (Memᴰ.not-nil m);
    constants = record { literals = λ a i m. absurd (Memᴰ.not-nil m); composites = λ a i m. absurd (Memᴰ.not-nil m); nulls = λ a i m. absurd (Memᴰ.not-nil m); values = λ v m. absurd (Memᴰ.not-nil m) };
    formed = λ d m. absurd (Memᴰ.not-nil m);
  }

  -- an id is taken
  pub take_sound : (r : ℕ) (P : List (ℕ × ℕ)) (s : State) → Sound start P s → Sound start ((r, suc s.last) ∷ P) (take_id s)
  take_sound r P s h = record {
    ids = λ i. omega (arith, h.ids i, up_to_suc s.last i);
    above = h.above;
    apart = h.apart;
    caps = h.caps;
    names = notes_up start s.last s.names h.names;
    annotations = notes_up start s.last s.annotations h.annotations;
    single = h.single;
    routines = h.routines;
    bounded = λ k i m. omega (arith, h.bounded k i m);
    unique = h.unique;
    injective = h.injective;
    handles = h.handles;
    settled = λ l i m. waiting l i (h.settled l i m);
    spelt = h.spelt;
    constants = h.constants;
    formed = λ d m. declaration_up s.last d (h.formed d m);
  }
    where
      waiting : (l : Shape) (i : ℕ) → Memᴰ (rank_of l, i) P ⊎ Settled s.types s.declarations l i → Memᴰ (rank_of l, i) ((r, suc s.last) ∷ P) ⊎ Settled s.types s.declarations l i
      waiting l i (inl m) = inl (Memᴰ.tail m)
      waiting l i (inr g) = inr g

  -- a shape takes its id and is entered
  pub begin_sound : (l : Shape) (P : List (ℕ × ℕ)) (s : State) → ((i : ℕ) → Memᴰ (shape l, i) s.types → ⊥) → Sound start P s
      → Sound start ((rank_of l, suc s.last) ∷ P) (enter (shape l) (suc s.last) (take_id s))
  begin_sound l P s new h = record {
    ids = g.ids;
    above = g.above;
    apart = g.apart;
    caps = g.caps;
    names = g.names;
    annotations = g.annotations;
    single = h.single;
    routines = h.routines;
    bounded = table_bounded s.types (shape l) (suc s.last) (suc s.last) g.bounded (omega arith);
    unique = table_unique s.types (shape l) (suc s.last) h.unique new;
    injective = λ a b i m n. injective a b i (snoc_cases s.types m) (snoc_cases s.types n);
    handles = λ k i m. handles k i (snoc_cases s.types m);
    settled = λ a i m. settled a i (snoc_cases s.types m);
    spelt = λ d m t. plain_more s.types e s.constants.composites d (h.spelt d m t);
    constants = h.constants;
    formed = g.formed;
  }
    where
      id : ℕ
      id = suc s.last

      e : Key × ℕ
      e = (shape l, suc s.last)

      g : Sound start ((rank_of l, suc s.last) ∷ P) (take_id s)
      g = take_sound (rank_of l) P s h

      injective : (a b : Shape) (i : ℕ) → Memᴰ (shape a, i) s.types ⊎ (Path (Key × ℕ) (shape a, i) e) → Memᴰ (shape b, i) s.types ⊎ (Path (Key × ℕ) (shape b, i) e) → a ≡ b
      injective a b i (inl m) (inl n) = h.injective a b i m n
      injective a b i (inl m) (inr q) = let q' : i ≡ suc s.last = ap (λ (y : Key × ℕ). y.1) q in absurd (omega (arith, h.bounded (shape a) i m))
      injective a b i (inr q) (inl n) = let q' : i ≡ suc s.last = ap (λ (y : Key × ℕ). y.1) q in absurd (omega (arith, h.bounded (shape b) i n))
      injective a b i (inr q) (inr q') = let p : shape a ≡ shape l = ap (λ (y : Key × ℕ). y.0) q in let p' : shape b ≡ shape l = ap (λ (y : Key × ℕ). y.0) q' in cc

      handles : (k i : ℕ) → Memᴰ (entry k, i) s.types ⊎ (Path (Key × ℕ) (entry k, i) e) → 1 ≤ times i s.declarations
      handles k i (inl m) = h.handles k i m
      handles k i (inr q) = let p : entry k ≡ shape l = ap (λ (y : Key × ℕ). y.0) q in let z : ◌≡◌ {A = ℕ} 0 1 = cc in absurd (omega arith)

      settled : (a : Shape) (i : ℕ) → Memᴰ (shape a, i) s.types ⊎ (Path (Key × ℕ) (shape a, i) e) → Memᴰ (rank_of a, i) ((rank_of l, suc s.last) ∷ P) ⊎ Settled (s.types ++ e ∷ []) s.declarations a i
      settled a i (inl m) = more (g.settled a i m)
        where
          more : Memᴰ (rank_of a, i) ((rank_of l, suc s.last) ∷ P) ⊎ Settled s.types s.declarations a i → Memᴰ (rank_of a, i) ((rank_of l, suc s.last) ∷ P) ⊎ Settled (s.types ++ e ∷ []) s.declarations a i
          more (inl p) = inl p
          more (inr p) = inr (settled_more s.types e s.declarations a i p)
      settled a i (inr q) = let p : shape a ≡ shape l = ap (λ (y : Key × ℕ). y.0) q in let p' : a ≡ l = cc in
          inl (Memᴰ.head (λ j. (rank_of (p' j), (q j).1)))

  -- an entry is entered under a declared id
  pub entry_sound : (k id : ℕ) (P : List (ℕ × ℕ)) (s : State) → ((i : ℕ) → Memᴰ (entry k, i) s.types → ⊥) → 1 ≤ times id s.declarations → id ≤ s.last → Sound start P s
      → Sound start P (enter (entry k) id s)
  entry_sound k id P s new old low h = record {
    ids = h.ids;
    above = h.above;
    apart = h.apart;
    caps = h.caps;
    names = h.names;
    annotations = h.annotations;
    single = h.single;
    routines = h.routines;
    bounded = table_bounded s.types (entry k) id s.last h.bounded low;
    unique = table_unique s.types (entry k) id h.unique new;
    injective = λ a b i m n. h.injective a b i (back a i (snoc_cases s.types m)) (back b i (snoc_cases s.types n));
    handles = λ k i m. handles k i (snoc_cases s.types m);
    settled = λ a i m. settled a i (h.settled a i (back a i (snoc_cases s.types m)));
    spelt = λ d m t. plain_more s.types e s.constants.composites d (h.spelt d m t);
    constants = h.constants;
    formed = h.formed;
  }
    where
      e : Key × ℕ
      e = (entry k, id)

      back : (a : Shape) (i : ℕ) → Memᴰ (shape a, i) s.types ⊎ (Path (Key × ℕ) (shape a, i) e) → Memᴰ (shape a, i) s.types
      back a i (inl m) = m
      back a i (inr q) = let p : shape a ≡ entry k = ap (λ (y : Key × ℕ). y.0) q in let z : ◌≡◌ {A = ℕ} 0 1 = cc in absurd (omega arith)

      handles : (k i : ℕ) → Memᴰ (entry k, i) s.types ⊎ (Path (Key × ℕ) (entry k, i) e) → 1 ≤ times i s.declarations
      handles k i (inl m) = h.handles k i m
      handles k i (inr q) = rw (ap (λ (y : Key × ℕ). y.1) q) old

      settled : (a : Shape) (i : ℕ) → Memᴰ (rank_of a, i) P ⊎ Settled s.types s.declarations a i → Memᴰ (rank_of a, i) P ⊎ Settled (s.types ++ e ∷ []) s.declarations a i
      settled a i (inl p) = inl p
      settled a i (inr p) = inr (settled_more s.types e s.declarations a i p)

  -- an instruction declares the id that was taken last of those pending
  pub declare_sound : (r id : ℕ) (P : List (ℕ × ℕ)) (s : State) (cs : List ℕ) (d : Instruction) → d.result ≡ Some id → Formed d → Sized s.last d → needs d ≡ cs
      → ((u : ℕ) → Memᴰ u (uses d) → 1 ≤ times u s.declarations)
      → ((j : Instruction) → Memᴰ j s.declarations → EqualTypes j d → ⊥)
      → (T (plain_type d.opcode) → Spelt s.types d ⊎ Routine s.constants.composites d)
      → ((l : Shape) → Memᴰ (shape l, id) s.types → rank_of l ≡ r → Settled s.types (s.declarations ++ d ∷ []) l id)
      → Sound start ((r, id) ∷ P) s → Sound start P (declare_with cs d s)
  declare_sound r id P s cs d e fd fits nc used alone spells settles h = record {
    ids = λ i. omega (arith, h.ids i, times_snoc i s.declarations d, ap (λ (o : Option ℕ). once o i) e);
    above = above_snoc [] s.declarations d h.above (λ t. used);
    apart = equal_types_snoc s.declarations d h.apart alone;
    caps = λ c. let q = h.caps c in let p = listed_count c cs s.capabilities (omega arith) in omega (arith, needed_snoc c s.declarations d, ap (λ (xs : List ℕ). occurrences c xs) nc);
    names = h.names;
    annotations = h.annotations;
    single = h.single;
    routines = λ c i t m. Memᴰ.append_left (d ∷ []) (h.routines c i t m);
    bounded = h.bounded;
    unique = h.unique;
    injective = h.injective;
    handles = λ k i m. later i s.declarations d (h.handles k i m);
    settled = λ l i m. settled l i m (h.settled l i m);
    spelt = λ j m. spelt j (snoc_cases s.declarations m);
    constants = held_later s.constants s.declarations d h.constants;
    formed = λ j m. formed j (snoc_cases s.declarations m);
  }
    where
      settled : (l : Shape) (i : ℕ) → Memᴰ (shape l, i) s.types → Memᴰ (rank_of l, i) ((r, id) ∷ P) ⊎ Settled s.types s.declarations l i → Memᴰ (rank_of l, i) P ⊎ Settled s.types (s.declarations ++ d ∷ []) l i
      settled l i m (inl p) = first (Memᴰ.cases_cons p)
        where
          first : (Path (ℕ × ℕ) (rank_of l, i) (r, id)) ⊎ Memᴰ (rank_of l, i) P → Memᴰ (rank_of l, i) P ⊎ Settled s.types (s.declarations ++ d ∷ []) l i
          first (inl q) = let q' : i ≡ id = ap (λ (y : ℕ × ℕ). y.1) q in inr (rw q' (settles l (rw q' at m) (ap (λ (y : ℕ × ℕ). y.0) q)))
          first (inr p) = inl p
      settled l i m (inr p) = inr (settled_later s.types s.declarations d l i p)

      formed : (j : Instruction) → Memᴰ j s.declarations ⊎ (j ≡ d) → Declaration s.last j
      formed j (inl m) = h.formed j m
      formed j (inr q) = rw q (record { formed = fd; id = id; result = e; fits = fits })

      spelt : (j : Instruction) → Memᴰ j s.declarations ⊎ (j ≡ d) → T (plain_type j.opcode) → Spelt s.types j ⊎ Routine s.constants.composites j
      spelt j (inl m) t = h.spelt j m t
      spelt j (inr q) t = rw q (spells (rw q at t))

  -- an id that is pending is not yet declared
  pub not_declared : (r id : ℕ) (P : List (ℕ × ℕ)) (s : State) → Sound start ((r, id) ∷ P) s → id ≤ s.last → times id s.declarations ≡ 0
  not_declared r id P s h low = omega (arith, h.ids id, same_itself id, up_to_in s.last id low)

  -- an instruction that is no plain type, under an id that no shape has
  pub other_sound : (id : ℕ) (P : List (ℕ × ℕ)) (s : State) (d : Instruction) → d.result ≡ Some id → Formed d → Sized s.last d → (T (plain_type d.opcode) → ⊥) → needs d ≡ []
      → ((u : ℕ) → Memᴰ u (uses d) → 1 ≤ times u s.declarations)
      → Sound start ((9, id) ∷ P) s → Sound start P (declare_alone d s)
  other_sound id P s d e fd fits other free used h =
      declare_sound 9 id P s [] d e fd fits free used (λ j m t. other (rw (← t.opcode) t.plain)) (λ t. absurd (other t)) (λ l m q. absurd (omega (arith, (facts l).shallow))) h

  -- the tables of constants are replaced by others that hold declared ids
  pub constants_sound : (c : Constants) (P : List (ℕ × ℕ)) (s : State) → Held c s.declarations
      → ((x : Composite) (i : ℕ) → Memᴰ (x, i) s.constants.composites → Memᴰ (x, i) c.composites)
      → ((x : Composite) (i : ℕ) → T (is_routine x) → Memᴰ (x, i) c.composites → Memᴰ (x, i) s.constants.composites)
      → Sound start P s → Sound start P (with_constants c s)
  constants_sound c P s held more back h = record {
    ids = h.ids;
    above = h.above;
    apart = h.apart;
    caps = h.caps;
    names = h.names;
    annotations = h.annotations;
    single = h.single;
    routines = λ x i t m. h.routines x i t (back x i t m);
    bounded = h.bounded;
    unique = h.unique;
    injective = h.injective;
    handles = h.handles;
    settled = h.settled;
    spelt = λ d m t. plain_later s.types s.constants.composites c.composites d more (h.spelt d m t);
    constants = held;
    formed = h.formed;
  }

  -- a function type or void takes its id, is declared and entered
  pub routine_sound : (c : Composite) (P : List (ℕ × ℕ)) (s : State) → T (is_routine c) → ((i : ℕ) → Memᴰ (c, i) s.constants.composites → ⊥)
      → Formed (routine_of c (suc s.last)) → Sized (suc s.last) (routine_of c (suc s.last))
      → ((u : ℕ) → Memᴰ u (uses (routine_of c (suc s.last))) → 1 ≤ times u s.declarations) → Sound start P s
      → Sound start P (or_new_type None c (routine_of c) s).state
  routine_sound c P s is new fd fits used h = record {
    ids = λ i. omega (arith, h.ids i, up_to_suc s.last i, times_snoc i s.declarations d, ap (λ (o : Option ℕ). once o i) e);
    above = above_snoc [] s.declarations d h.above (λ t. used);
    apart = equal_types_snoc s.declarations d h.apart (λ j n t. alone j t (h.spelt j n t.plain));
    caps = λ c'. let q = h.caps c' in let p = listed_count c' [] s.capabilities (omega arith) in omega (arith, needed_snoc c' s.declarations d, ap (λ (xs : List ℕ). occurrences c' xs) (routine_free c (suc s.last)));
    names = notes_up start s.last s.names h.names;
    annotations = notes_up start s.last s.annotations h.annotations;
    single = h.single;
    bounded = λ k i m. omega (arith, h.bounded k i m);
    unique = h.unique;
    injective = h.injective;
    handles = λ k i m. later i s.declarations d (h.handles k i m);
    settled = λ l i m. settled l i (h.settled l i m);
    spelt = λ j m t. spelt j t (snoc_cases s.declarations m);
    routines = λ x i t m. routines x i t (snoc_cases s.constants.composites m);
    constants = record {
      literals = λ a i m. later i s.declarations d (h.constants.literals a i m);
      composites = declared_snoc s.constants.composites (s.declarations ++ d ∷ []) c (suc s.last) (λ a i m. later i s.declarations d (h.constants.composites a i m)) (omega (arith, times_snoc (suc s.last) s.declarations d, ap (λ (o : Option ℕ). once o (suc s.last)) e, same_itself (suc s.last)));
      nulls = λ a i m. later i s.declarations d (h.constants.nulls a i m);
      values = λ v m. (later v.id s.declarations d (h.constants.values v m).0, (h.constants.values v m).1);
    };
    formed = λ j m. formed j (snoc_cases s.declarations m);
  }
    where
      d : Instruction
      d = routine_of c (suc s.last)

      e : (routine_of c (suc s.last)).result ≡ Some (suc s.last)
      e = routine_result c (suc s.last)

      alone : (j : Instruction) → EqualTypes j (routine_of c (suc s.last)) → Spelt s.types j ⊎ Routine s.constants.composites j → ⊥
      alone j t (inl p) = not_shape p.l c (suc s.last) is (sym t.opcode ∙ ap (λ (x : Instruction). x.opcode) p.spells)
      alone j t (inr r) =
          let q : r.c ≡ c = routine_same r.c c r.id (suc s.last) r.is is (sym (ap (λ (x : Instruction). x.opcode) r.spells) ∙ t.opcode) (sym (ap (λ (x : Instruction). x.operands) r.spells) ∙ t.operands) in
          new r.id (rw q at r.entered)

      settled : (l : Shape) (i : ℕ) → Memᴰ (rank_of l, i) P ⊎ Settled s.types s.declarations l i → Memᴰ (rank_of l, i) P ⊎ Settled s.types (s.declarations ++ routine_of c (suc s.last) ∷ []) l i
      settled l i (inl p) = inl p
      settled l i (inr p) = inr (settled_later s.types s.declarations (routine_of c (suc s.last)) l i p)

      spelt : (j : Instruction) → T (plain_type j.opcode) → Memᴰ j s.declarations ⊎ (j ≡ routine_of c (suc s.last)) → Spelt s.types j ⊎ Routine (s.constants.composites ++ (c, suc s.last) ∷ []) j
      spelt j t (inl m) = plain_later s.types s.constants.composites (s.constants.composites ++ (c, suc s.last) ∷ []) j (λ x i q. Memᴰ.append_left ((c, suc s.last) ∷ []) q) (h.spelt j m t)
      spelt j t (inr q) = inr (record { c = c; id = suc s.last; is = is; spells = q; entered = last_in s.constants.composites (c, suc s.last) })

      routines : (x : Composite) (i : ℕ) → T (is_routine x) → Memᴰ (x, i) s.constants.composites ⊎ (Path (Composite × ℕ) (x, i) (c, suc s.last)) → Memᴰ (routine_of x i) (s.declarations ++ routine_of c (suc s.last) ∷ [])
      routines x i t (inl m) = Memᴰ.append_left (routine_of c (suc s.last) ∷ []) (h.routines x i t m)
      routines x i t (inr q) = rw (ap (λ (y : Composite × ℕ). y.0) q, ap (λ (y : Composite × ℕ). y.1) q) (last_in s.declarations (routine_of c (suc s.last)))

      formed : (j : Instruction) → Memᴰ j s.declarations ⊎ (j ≡ routine_of c (suc s.last)) → Declaration (suc s.last) j
      formed j (inl m) = declaration_up s.last j (h.formed j m)
      formed j (inr q) = rw q (record { formed = fd; id = suc s.last; result = e; fits = fits })

  -- other names and annotations: all else is as it was
  abbrev marked : List Instruction → List Instruction → State → State
  marked ns xs s = record { last = s.last; types = s.types; constants = s.constants; capabilities = s.capabilities; names = ns; annotations = xs; declarations = s.declarations }

  marked_sound : (ns xs : List Instruction) (P : List (ℕ × ℕ)) (s : State) → Notes start s.last ns → Notes start s.last xs → Single ns xs → Sound start P s → Sound start P (marked ns xs s)
  marked_sound ns xs P s names annotations single h = record {
    ids = h.ids;
    above = h.above;
    apart = h.apart;
    caps = h.caps;
    names = names;
    annotations = annotations;
    single = single;
    routines = h.routines;
    bounded = h.bounded;
    unique = h.unique;
    injective = h.injective;
    handles = h.handles;
    settled = h.settled;
    spelt = h.spelt;
    constants = h.constants;
    formed = h.formed;
  }

  pub annotate_sound : (d : Instruction) (P : List (ℕ × ℕ)) (s : State) → Note s.last d → ((t : ℕ) → Memᴰ t (targets (d ∷ [])) → (start < t) × (t ≤ s.last)) → Single s.names (s.annotations ++ d ∷ []) → Sound start P s → Sound start P (annotate d s)
  annotate_sound d P s note on single h = marked_sound s.names (s.annotations ++ d ∷ []) P s h.names (notes_snoc start s.last s.annotations d note on h.annotations) single h

  pub label_sound : (d : Instruction) (P : List (ℕ × ℕ)) (s : State) → Note s.last d → ((t : ℕ) → Memᴰ t (targets (d ∷ [])) → (start < t) × (t ≤ s.last)) → Single (s.names ++ d ∷ []) s.annotations → Sound start P s → Sound start P (label d s)
  label_sound d P s note on single h = marked_sound (s.names ++ d ∷ []) s.annotations P s (notes_snoc start s.last s.names d note on h.names) h.annotations single h

  -- an id that is declared or pending lies above the start, and not above the last one taken
  pub taken_range : (P : List (ℕ × ℕ)) (s : State) → Sound start P s → (id : ℕ) → 1 ≤ times id s.declarations + pending id P → (start < id) × (id ≤ s.last)
  taken_range P s h id p = go (leb id start) refl (leb id s.last) refl
    where
      go : (b : Bool) → leb id start ≡ b → (c : Bool) → leb id s.last ≡ c → (start < id) × (id ≤ s.last)
      go true e true f = absurd (omega (arith, h.ids id, up_to_in start id (leb-true id start e), up_to_in s.last id (leb-true id s.last f)))
      go true e false f = absurd (omega (arith, h.ids id, up_to_out s.last id (leb-false id s.last f)))
      go false e true f = (leb-false id start e, leb-true id s.last f)
      go false e false f = absurd (omega (arith, h.ids id, up_to_out s.last id (leb-false id s.last f)))

  -- a name or a decoration on an id that is declared or pending
  pub name_sound : (id : ℕ) (d : Instruction) (P : List (ℕ × ℕ)) (s : State) → Note s.last d → ((t : ℕ) → Memᴰ t (targets (d ∷ [])) → t ≡ id) → 1 ≤ times id s.declarations + pending id P → Single (s.names ++ d ∷ []) s.annotations → Sound start P s → Sound start P (label d s)
  name_sound id d P s note on p single h = label_sound d P s note (λ t m. subst (λ (x : ℕ). (start < x) × (x ≤ s.last)) (sym (on t m)) (taken_range P s h id p)) single h

  pub mark_sound : (id : ℕ) (d : Instruction) (P : List (ℕ × ℕ)) (s : State) → Note s.last d → ((t : ℕ) → Memᴰ t (targets (d ∷ [])) → t ≡ id) → 1 ≤ times id s.declarations + pending id P → Single s.names (s.annotations ++ d ∷ []) → Sound start P s → Sound start P (annotate d s)
  mark_sound id d P s note on p single h = annotate_sound d P s note (λ t m. subst (λ (x : ℕ). (start < x) × (x ≤ s.last)) (sym (on t m)) (taken_range P s h id p)) single h
