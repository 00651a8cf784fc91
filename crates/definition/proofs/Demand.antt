-- Demand 3: the instructions of a sound state, with nothing pending, are what the record asks; the reader finds them in the words;
-- and a sheet that is fit comes to such a state. What is entered, a shape, a function type or void, is declared once, so the reader
-- finds it under its id; where the reader finds void, it is entered, and so some record returns it.
use Prim.Native.Nat.{ℕ, suc, ◌<◌, ◌≤◌}
use mathlib.Core.Path.{◌≡◌, refl, sym, ap, ◌∙◌, subst}
use mathlib.Core.Logic.{◌⊎◌, inl, inr, ◌↔◌}
use mathlib.Core.List.Memᴰ
use mathlib.Core.List.{List, [], ◌∷◌, ◌++◌, append-nil, append_assoc, Memᴰ}
use Rattle.std.specs.Prelude.{Option, Some, None}
use mathlib.Core.Bool.{Bool, true, false}
use native.Mathlib.Omega.{arith}
use borrow.Author.Tests.{eq-eqb, ne_eqb}
use lib.Dec.{T, lit<, eqb, leb, eqb→eq}
use Rattle.std.specs.List.{slice_get}
use lib.ListN.{length, take, drop}
use lib.Seq.{take_at, drop_at}
use Rattle.definition.specs.Choice.{pick, or_else}
use Rattle.definition.specs.Numbers.{OpCapability, OpName, OpMemberName, OpDecorate, OpMemberDecorate, OpTypeVoid, OpTypeBool, OpTypeInt, OpTypeFloat, OpTypeVector, OpTypeMatrix, OpTypeImage, OpTypeSampler, OpTypeFunction, OpTypeAccelerationStructureKHR, OpTypeRayQueryKHR}
use Rattle.definition.specs.Instructions.{Instruction, capability, type_void, type_function, put}
use Rattle.definition.specs.Reader.{layout_of, Module}
use Rattle.definition.specs.ReadTypes.{result_is, declaration_of, read_scalar, read_vector, read_type, void_by, read_void, read_function}
use Rattle.definition.specs.Sheet.{TypeEntry, Function, start_of}
use Rattle.definition.specs.Tests.{Judged, refused, fit}
use Rattle.definition.specs.Shapes.{Kind, Shape, Key, same_key, shape_of, inner, rank_of, opcode_of, type_of, entry, shape}
use Rattle.definition.specs.Shapes.{scalar, vector, matrix, pointer, value_pointer, image, sampler, acceleration_structure, ray_query, binding_array, binding_pointer}
use Rattle.definition.specs.State.{Composite, composite, function, void, same_composite, State, occurrences, lookup, id_of, bound_of, capability_instructions, instructions, module_words, entry_id, entry_ids}
use Rattle.definition.specs.Operations.{Progress, judged, Written, unchanged, declared_of, declare}
use Rattle.definition.specs.WellDeclared.{times, once, declares_id, Above, plain_type, EqualTypes, NoEqualTypes, targets, target_of, marks, needs, listed_in, listed_by, needed, carried, WellDeclared, HasShape, EntriesDeclared, return_id, signature_of, VoidReturned, FunctionsDeclared, Demand3, written_of, Accepted, Demand3OfDeclare}
use Rattle.definition.proofs.Lists.{same_itself, times-append, times_in, targets-append, up_to_in, up_to_out, lookup_in, lookup_out}
use Rattle.definition.proofs.Repeats.{carried-append, none_carried, firsts, naming}
use Rattle.definition.proofs.Sizes.{W}
use Rattle.definition.proofs.ByShape.{taken, FitsIn, ReadAs, ReadIn, scalar_by_lem, facts}
use Rattle.definition.proofs.Inners.{plain_shape}
use Rattle.definition.proofs.Sound.{Sound, Settled, Spelt, Routine, is_routine, routine_of, routine_result, not_shape, Note, Declaration, settled_declared, taken_range}
use Rattle.definition.proofs.Types.{HasShapeId, Told}
use Rattle.definition.proofs.Values.{ResultIs, AreIds, Signed}
use Rattle.definition.proofs.Records.{fit_sheet}
use Rattle.definition.proofs.Reading.{Readable, module_read}
use Rattle.definition.proofs.Capabilities.{small_listed}

-- an instruction that declares nothing and needs nothing
record Quiet (d : Instruction) : Type 0 where
  silent : d.result ≡ None
  other : T (plain_type d.opcode) → ⊥
  free : (c : ℕ) → occurrences c (needs d) ≡ 0

AllQuiet : List Instruction → Type 0
AllQuiet xs = (d : Instruction) → Memᴰ d xs → Quiet d

tail_quiet : (x : Instruction) (xs : List Instruction) → AllQuiet (x ∷ xs) → AllQuiet xs
unfolding AllQuiet
tail_quiet x xs q d m = q d (Memᴰ.tail m)

all_quiet : (xs : List Instruction) → AllQuiet xs → (d : Instruction) → Memᴰ d xs → Quiet d
unfolding AllQuiet
all_quiet xs q d m = q d m

head_quiet : (x : Instruction) (xs : List Instruction) → AllQuiet (x ∷ xs) → Quiet x
unfolding AllQuiet
head_quiet x xs q = q x (Memᴰ.head refl)

quiet_times : (i : ℕ) (xs ds : List Instruction) → AllQuiet xs → times i (xs ++ ds) ≡ times i ds
unfolding times
quiet_times i [] ds q = refl
quiet_times i (x ∷ xs) ds q = omega (arith, ap (λ (o : Option ℕ). once o i) (head_quiet x xs q).silent, quiet_times i xs ds (tail_quiet x xs q))

quiet_needed : (c : ℕ) (xs ds : List Instruction) → AllQuiet xs → needed c (xs ++ ds) ≡ needed c ds
unfolding needed
quiet_needed c [] ds q = refl
quiet_needed c (x ∷ xs) ds q = omega (arith, (head_quiet x xs q).free c, quiet_needed c xs ds (tail_quiet x xs q))

above_weaker : (b c ds : List Instruction) → ((i : ℕ) → times i b ≤ times i c) → Above b ds → Above c ds
above_weaker b c [] le h = tt
above_weaker b c (d ∷ ds) le h = (λ t u m. omega (arith, h.0 t u m, le u), above_weaker (b ++ d ∷ []) (c ++ d ∷ []) ds (λ i. omega (arith, le i, times-append i b (d ∷ []), times-append i c (d ∷ []))) h.1)

quiet_above : (b xs ds : List Instruction) → AllQuiet xs → Above b ds → Above b (xs ++ ds)
quiet_above b [] ds q h = h
quiet_above b (x ∷ xs) ds q h = (
  λ t. absurd (subst (λ (o : Option ℕ). T (declares_id o)) (head_quiet x xs q).silent t),
  quiet_above (b ++ x ∷ []) xs ds (tail_quiet x xs q) (above_weaker b (b ++ x ∷ []) ds (λ i. omega (arith, times-append i b (x ∷ []))) h),
)

quiet_equal_types : (xs ds : List Instruction) → AllQuiet xs → NoEqualTypes ds → NoEqualTypes (xs ++ ds)
quiet_equal_types [] ds q h = h
quiet_equal_types (x ∷ xs) ds q h = (λ j m t. (head_quiet x xs q).other t.plain, quiet_equal_types xs ds (tail_quiet x xs q) h)

-- the capabilities
capabilities_quiet : (cs : List ℕ) → AllQuiet (capability_instructions cs)
unfolding capability_instructions AllQuiet needs occurrences
capabilities_quiet [] d m = absurd (Memᴰ.not-nil m)
capabilities_quiet (c ∷ cs) d m = go (Memᴰ.cases_cons m) (λ n. capabilities_quiet cs d n)
  where
    itself : Quiet (capability c)
    itself = record { silent = refl; other = λ t. t; free = λ c. refl }

    go : (d ≡ capability c) ⊎ Memᴰ d (capability_instructions cs) → (Memᴰ d (capability_instructions cs) → Quiet d) → Quiet d
    go (inl e) f = rw e itself
    go (inr n) f = f n

capabilities_readable : (last : ℕ) (cs : List ℕ) → ((c : ℕ) → Memᴰ c cs → c ≤ W) → (d : Instruction) → Memᴰ d (capability_instructions cs) → Readable last d
unfolding capability_instructions
capabilities_readable last [] small d m = absurd (Memᴰ.not-nil m)
capabilities_readable last (c ∷ cs) small d m = go (Memᴰ.cases_cons m) (λ n. capabilities_readable last cs (λ x e. small x (Memᴰ.tail e)) d n)
  where
    itself : Readable last (capability c)
    itself = record {
      formed = taken tt;
      fits = record { words = λ B p q. (omega (arith, small c (Memᴰ.head refl)), tt); short = lit< tt };
    }

    go : (d ≡ capability c) ⊎ Memᴰ d (capability_instructions cs) → (Memᴰ d (capability_instructions cs) → Readable last d) → Readable last d
    go (inl e) f = rw e itself
    go (inr n) f = f n

-- a name or a decoration
module _ (last : ℕ) (d : Instruction) (n : Note last d) where
  -- what fails at the four opcodes fails at all that mark
  note_opcode : (o : ℕ) → (T (marks o) → ⊥) → d.opcode ≡ o → ⊥
  note_opcode o f e = f (subst (λ (x : ℕ). T (marks x)) e n.marking)

  note_free : (c : ℕ) → occurrences c (needs d) ≡ 0
  unfolding needs occurrences
  note_free c = rw (ne_eqb d.opcode OpTypeInt (note_opcode OpTypeInt (λ t. t)), ne_eqb d.opcode OpTypeFloat (note_opcode OpTypeFloat (λ t. t)), ne_eqb d.opcode OpTypeImage (note_opcode OpTypeImage (λ t. t)), ne_eqb d.opcode OpTypeAccelerationStructureKHR (note_opcode OpTypeAccelerationStructureKHR (λ t. t)), ne_eqb d.opcode OpTypeRayQueryKHR (note_opcode OpTypeRayQueryKHR (λ t. t))) refl

  note_quiet : Quiet d
  note_quiet = record { silent = n.silent; other = other; free = note_free }
    where
      other : T (plain_type d.opcode) → ⊥
      other t = rw (ne_eqb d.opcode OpTypeVoid (note_opcode OpTypeVoid (λ t. t)), ne_eqb d.opcode OpTypeFunction (note_opcode OpTypeFunction (λ t. t)), ne_eqb d.opcode OpTypeBool (note_opcode OpTypeBool (λ t. t)), ne_eqb d.opcode OpTypeInt (note_opcode OpTypeInt (λ t. t)), ne_eqb d.opcode OpTypeFloat (note_opcode OpTypeFloat (λ t. t)), ne_eqb d.opcode OpTypeVector (note_opcode OpTypeVector (λ t. t)), ne_eqb d.opcode OpTypeMatrix (note_opcode OpTypeMatrix (λ t. t)), ne_eqb d.opcode OpTypeImage (note_opcode OpTypeImage (λ t. t)), ne_eqb d.opcode OpTypeSampler (note_opcode OpTypeSampler (λ t. t)), ne_eqb d.opcode OpTypeAccelerationStructureKHR (note_opcode OpTypeAccelerationStructureKHR (λ t. t)), ne_eqb d.opcode OpTypeRayQueryKHR (note_opcode OpTypeRayQueryKHR (λ t. t))) at t

  note_lists : listed_by d ≡ []
  unfolding listed_by
  note_lists = rw (ne_eqb d.opcode OpCapability (note_opcode OpCapability (λ t. t))) refl

-- what the sections list and mark
no_targets : (xs : List Instruction) → ((d : Instruction) → Memᴰ d xs → target_of d ≡ []) → targets xs ≡ []
unfolding targets
no_targets [] h = refl
no_targets (x ∷ xs) h = rw (h x (Memᴰ.head refl)) (no_targets xs (λ d m. h d (Memᴰ.tail m)))

none_listed : (xs : List Instruction) → ((d : Instruction) → Memᴰ d xs → listed_by d ≡ []) → listed_in xs ≡ []
unfolding listed_in
none_listed [] h = refl
none_listed (x ∷ xs) h = rw (h x (Memᴰ.head refl)) (none_listed xs (λ d m. h d (Memᴰ.tail m)))

capability_targets : (cs : List ℕ) → targets (capability_instructions cs) ≡ []
unfolding capability_instructions targets target_of
capability_targets [] = refl
capability_targets (c ∷ cs) = capability_targets cs

capability_listed : (cs : List ℕ) → listed_in (capability_instructions cs) ≡ cs
unfolding capability_instructions listed_in listed_by
capability_listed [] = refl
capability_listed (c ∷ cs) = ap (λ (xs : List ℕ). c ∷ xs) (capability_listed cs)

capability_carried : (o : ℕ) (ks cs : List ℕ) → eqb OpCapability o ≡ false → carried o ks (capability_instructions cs) ≡ 0
unfolding capability_instructions carried
capability_carried o ks [] e = refl
capability_carried o ks (c ∷ cs) e = let h = capability_carried o ks cs e in rw e (omega arith)

listed-append : (xs ys : List Instruction) → listed_in (xs ++ ys) ≡ listed_in xs ++ listed_in ys
unfolding listed_in
listed-append [] ys = refl
listed-append (x ∷ xs) ys = rw (listed-append xs ys) (sym (append_assoc (listed_by x) (listed_in xs) (listed_in ys)))

-- a declaration is no capability and no decoration
module _ (last : ℕ) (d : Instruction) (h : Declaration last d) where
  not_opcode : (o : ℕ) → (layout_of o).declares ≡ false → d.opcode ≡ o → ⊥
  not_opcode o f e =
      let a : (layout_of d.opcode).declares ≡ true = h.formed.declares ∙ ap declares_id h.result in
      let b : (layout_of d.opcode).declares ≡ false = ap (λ (x : ℕ). (layout_of x).declares) e ∙ f in
      let z : ◌≡◌ {A = ℕ} 0 1 = cc in omega arith

  declaration_lists : listed_by d ≡ []
  unfolding listed_by
  declaration_lists = rw (ne_eqb d.opcode OpCapability (not_opcode OpCapability refl)) refl

  declaration_marks : target_of d ≡ []
  unfolding target_of
  declaration_marks = rw (ne_eqb d.opcode OpName (not_opcode OpName refl), ne_eqb d.opcode OpMemberName (not_opcode OpMemberName refl), ne_eqb d.opcode OpDecorate (not_opcode OpDecorate refl), ne_eqb d.opcode OpMemberDecorate (not_opcode OpMemberDecorate refl)) refl

-- ---- the reader of types: an id that is declared once is found

once_is : (i : ℕ) (o : Option ℕ) (b : Bool) → result_is i o ≡ b → once o i ≡ pick b 1 0
once_is i None b e = ap {B = ℕ} (λ (c : Bool). pick c 1 0) e
once_is i (Some r) b e = ap {B = ℕ} (λ (c : Bool). pick c 1 0) e

declaration_found : (i : ℕ) {d : Instruction} {xs : List Instruction} → d.result ≡ Some i → Memᴰ d xs → times i xs ≡ 1 → declaration_of xs i ≡ Some d
unfolding declaration_of times
declaration_found i {d} r (Memᴰ.head {x = y} {xs = ys} e) t =
    let f : result_is i y.result ≡ true = ap (λ (z : Instruction). result_is i z.result) (sym e) ∙ (ap (result_is i) r ∙ eq-eqb i i refl) in
    ap (λ (b : Bool). pick b (Some y) (declaration_of ys i)) f ∙ ap Some (sym e)
declaration_found i {d} r (Memᴰ.tail {x = y} {xs = ys} m) t = go (result_is i y.result) refl (declaration_found i r m)
  where
    go : (b : Bool) → result_is i y.result ≡ b → (times i ys ≡ 1 → declaration_of ys i ≡ Some d) → pick b (Some y) (declaration_of ys i) ≡ Some d
    go true e f = absurd (omega (arith, t, once_is i y.result true e, times_in i m, ap (λ (o : Option ℕ). once o i) r, same_itself i))
    go false e f = f (omega (arith, t, once_is i y.result false e))

-- what is found stands there
declaration_in : (i : ℕ) (xs : List Instruction) (d : Instruction) → declaration_of xs i ≡ Some d → Memᴰ d xs
unfolding declaration_of
declaration_in i [] d e = let z : ◌≡◌ {A = ℕ} 0 1 = cc in absurd (omega arith)
declaration_in i (x ∷ xs) d e = go (result_is i x.result) e (declaration_in i xs d)
  where
    go : (b : Bool) → pick b (Some x) (declaration_of xs i) ≡ Some d → (declaration_of xs i ≡ Some d → Memᴰ d xs) → Memᴰ d (x ∷ xs)
    go true e f = let p : d ≡ x = cc in Memᴰ.head p
    go false e f = Memᴰ.tail (f e)

module _ (start : ℕ) (s : State) (h : Sound start [] s) where
  -- everything but the declarations
  front : List Instruction
  front = capability_instructions s.capabilities ++ (s.names ++ s.annotations)

  as_front : instructions s ≡ front ++ s.declarations
  unfolding front instructions
  as_front = sym (append_assoc (capability_instructions s.capabilities) (s.names ++ s.annotations) s.declarations ∙ ap (λ (xs : List Instruction). capability_instructions s.capabilities ++ xs) (append_assoc s.names s.annotations s.declarations))

  front_quiet : AllQuiet front
  unfolding front AllQuiet
  front_quiet d m = outer (Memᴰ.append_cases (capability_instructions s.capabilities) m)
    where
      inside : Memᴰ d s.names ⊎ Memᴰ d s.annotations → Quiet d
      inside (inl n) = note_quiet s.last d (h.names.notes d n)
      inside (inr n) = note_quiet s.last d (h.annotations.notes d n)

      outer : Memᴰ d (capability_instructions s.capabilities) ⊎ Memᴰ d (s.names ++ s.annotations) → Quiet d
      outer (inl n) = capabilities_quiet s.capabilities d n
      outer (inr n) = inside (Memᴰ.append_cases s.names n)

  all_times : (i : ℕ) → times i (instructions s) ≡ times i s.declarations
  all_times i = rw as_front (quiet_times i front s.declarations front_quiet)

  all_needed : (c : ℕ) → needed c (instructions s) ≡ needed c s.declarations
  all_needed c = rw as_front (quiet_needed c front s.declarations front_quiet)

  all_targets : targets (instructions s) ≡ targets s.names ++ targets s.annotations
  unfolding front
  all_targets = rw (
    as_front,
    targets-append front s.declarations,
    targets-append (capability_instructions s.capabilities) (s.names ++ s.annotations),
    targets-append s.names s.annotations,
    capability_targets s.capabilities,
    no_targets s.declarations (λ d m. declaration_marks s.last d (h.formed d m)),
  ) (append-nil (targets s.names ++ targets s.annotations))

  all_listed : listed_in (instructions s) ≡ s.capabilities
  unfolding front
  all_listed = rw (
    as_front,
    listed-append front s.declarations,
    listed-append (capability_instructions s.capabilities) (s.names ++ s.annotations),
    listed-append s.names s.annotations,
    capability_listed s.capabilities,
    none_listed s.declarations (λ d m. declaration_lists s.last d (h.formed d m)),
    none_listed s.names (λ d m. note_lists s.last d (h.names.notes d m)),
    none_listed s.annotations (λ d m. note_lists s.last d (h.annotations.notes d m)),
  )
      (append-nil (s.capabilities ++ []) ∙ append-nil s.capabilities)

  -- decorations stand among the annotations alone, none of them twice
  all_once : (o : ℕ) (ks : List ℕ) → length ks ≡ firsts o → eqb OpCapability o ≡ false → (T (naming o) → ⊥) → (layout_of o).declares ≡ false → carried o ks (instructions s) ≤ 1
  unfolding instructions
  all_once o ks l c n d = omega (
    arith,
    carried-append o ks (capability_instructions s.capabilities) (s.names ++ (s.annotations ++ s.declarations)),
    carried-append o ks s.names (s.annotations ++ s.declarations),
    carried-append o ks s.annotations s.declarations,
    capability_carried o ks s.capabilities c,
    none_carried o ks s.names (λ x m e. n (subst (λ (p : ℕ). T (naming p)) e (h.single.named x m))),
    none_carried o ks s.declarations (λ x m. not_opcode s.last x (h.formed x m) o d),
    h.single.at_most_once o ks l,
  )

  -- what the reader takes
  pub all_readable : ((c : ℕ) → Memᴰ c s.capabilities → c ≤ W) → (d : Instruction) → Memᴰ d (instructions s) → Readable s.last d
  unfolding instructions
  all_readable small d m = outer (Memᴰ.append_cases (capability_instructions s.capabilities) m)
    where
      noted : (xs : List Instruction) → Note s.last d → Readable s.last d
      noted xs n = record { formed = n.formed; fits = n.fits }

      inside : Memᴰ d s.annotations ⊎ Memᴰ d s.declarations → Readable s.last d
      inside (inl n) = noted s.annotations (h.annotations.notes d n)
      inside (inr n) = let q = h.formed d n in record { formed = q.formed; fits = q.fits }

      middle : Memᴰ d s.names ⊎ Memᴰ d (s.annotations ++ s.declarations) → Readable s.last d
      middle (inl n) = noted s.names (h.names.notes d n)
      middle (inr n) = inside (Memᴰ.append_cases s.annotations n)

      outer : Memᴰ d (capability_instructions s.capabilities) ⊎ Memᴰ d (s.names ++ (s.annotations ++ s.declarations)) → Readable s.last d
      outer (inl n) = capabilities_readable s.last s.capabilities small d n
      outer (inr n) = middle (Memᴰ.append_cases s.names n)

  all_on : (t : ℕ) → Memᴰ t (targets s.names) ⊎ Memᴰ t (targets s.annotations) → (start < t) × (t ≤ s.last)
  all_on t (inl m) = h.names.on t m
  all_on t (inr m) = h.annotations.on t m

  each_once : (i : ℕ) → start < i → i ≤ s.last → times i s.declarations ≡ 1
  each_once i a b = omega (arith, h.ids i, up_to_out start i a, up_to_in s.last i b)

  no_other : (i : ℕ) → 1 ≤ times i s.declarations → (start < i) × (i ≤ s.last)
  no_other i t = taken_range start [] s h i (omega arith)

  pub well_declared : WellDeclared start (suc s.last) (instructions s)
  well_declared = record {
    each_once = λ i a b. all_times i ∙ each_once i a (omega arith);
    no_other = λ i t. let q = no_other i (rw (all_times i) at t) in (q.0, omega arith);
    above = rw as_front (quiet_above [] front s.declarations front_quiet h.above);
    on_declared = λ t m. let q = all_on t (Memᴰ.append_cases (targets s.names) (rw all_targets at m)) in all_times t ∙ each_once t q.0 q.1;
    capabilities = λ c. rw (all_listed, all_needed c) (h.caps c);
    no_equal_types = rw as_front (quiet_equal_types front s.declarations front_quiet h.apart);
    no_repeats = λ i d. all_once OpDecorate (i ∷ d ∷ []) refl refl (λ t. t) refl;
    no_member_repeats = λ i m d. all_once OpMemberDecorate (i ∷ m ∷ d ∷ []) refl refl (λ t. t) refl;
  }

  all_declarations : {d : Instruction} → Memᴰ d s.declarations → Memᴰ d (instructions s)
  all_declarations m = rw as_front (Memᴰ.append_right front m)

  -- an entered shape is what the reader finds under its id
  shape_declared_lem : (l : Shape) (i : ℕ) → Memᴰ (shape l, i) s.types → Settled s.types s.declarations l i
  shape_declared_lem l i m = go (h.settled l i m)
    where
      go : Memᴰ {A = ℕ × ℕ} (rank_of l, i) [] ⊎ Settled s.types s.declarations l i → Settled s.types s.declarations l i
      go (inl q) = absurd (Memᴰ.not-nil q)
      go (inr q) = q

  found_type : (l : Shape) (i : ℕ) (q : Settled s.types s.declarations l i) → declaration_of (instructions s) i ≡ Some (type_of l i q.x q.y)
  found_type l i q =
      let r = no_other i (settled_declared q) in
      declaration_found i refl (all_declarations q.declared) (all_times i ∙ each_once i r.0 r.1)

  scalar_read : (k : Kind) (i : ℕ) → Memᴰ (shape (scalar k), i) s.types → read_scalar (instructions s) i ≡ Some k
  unfolding read_scalar
  scalar_read k i m = let q = shape_declared_lem (scalar k) i m in rw (found_type (scalar k) i q) (scalar_by_lem k i q.x q.y)

  vector_read : (n : ℕ) (k : Kind) (i : ℕ) → Memᴰ (shape (vector n k), i) s.types → read_vector (instructions s) i ≡ Some (record { count = n; kind = k })
  unfolding read_vector
  vector_read n k i m = let q = shape_declared_lem (vector n k) i m in rw (found_type (vector n k) i q, scalar_read k q.x q.fits) refl

  shape_read : (l : Shape) (x : ℕ) → Memᴰ (shape l, x) s.types → ReadAs (instructions s) l x
  shape_read (scalar k) x m = scalar_read k x m
  shape_read (vector n k) x m = vector_read n k x m
  shape_read (matrix c r w) x m = tt
  shape_read (pointer b c) x m = tt
  shape_read (value_pointer n k c) x m = tt
  shape_read (image k d p a n t f) x m = tt
  shape_read sampler x m = tt
  shape_read acceleration_structure x m = tt
  shape_read ray_query x m = tt
  shape_read (binding_array b n) x m = tt
  shape_read (binding_pointer b n t a) x m = tt

  inner_read : (o : Option Key) (x : ℕ) → FitsIn s.types o x → ReadIn (instructions s) o x
  inner_read None x f = tt
  inner_read (Some (entry k)) x f = tt
  inner_read (Some (shape l)) x f = shape_read l x f

  type_read_lem : (l : Shape) (i : ℕ) → T (plain_type (opcode_of l)) → Memᴰ (shape l, i) s.types → read_type (instructions s) i ≡ Some l
  unfolding read_type
  type_read_lem l i p m = let q = shape_declared_lem l i m in rw (found_type l i q) ((facts l).told (instructions s) i q.x q.y p (inner_read (inner l) q.x q.fits))

  found_id : (k i : ℕ) → Memᴰ (entry k, i) s.types → id_of s (entry k) ≡ Some i
  found_id k i m = go (lookup same_key (entry k) s.types) refl
    where
      go : (o : Option ℕ) → lookup same_key (entry k) s.types ≡ o → o ≡ Some i
      go None e = absurd (lookup_out same_key (entry k) s.types e i m)
      go (Some j) e = ap Some (h.unique (entry k) j i (lookup_in same_key (entry k) s.types j e) m)

  -- equal ids exactly where equal shapes
  one_id : (l m : Shape) (i j : ℕ) → Memᴰ (shape l, i) s.types → Memᴰ (shape m, j) s.types → (i ≡ j) ↔ (l ≡ m)
  one_id l m i j a b = (λ e. h.injective l m j (rw e at a) b, λ e. h.unique (shape m) i j (rw e at a) b)

  pub entries_declared : (ts : List TypeEntry) → ((k : ℕ) (t : TypeEntry) → slice_get ts k ≡ Some t → Told k (shape_of t.inner) s.types) → EntriesDeclared ts s (instructions s)
  entries_declared ts told = record {
    shared = shared;
    declared = λ k l a. let q = has k l a in (q.0, found_id k q.0 q.1, type_read_lem l q.0 (plain_shape a.0.inner l a.2 a.3) q.2);
  }
    where
      has : (k : ℕ) (l : Shape) → HasShape ts k l → HasShapeId k l s.types
      has k l a = subst (λ (o : Option Shape). Told k o s.types) a.3 (told k a.0 a.1)

      shared : (k g : ℕ) (l m : Shape) (i j : ℕ) → HasShape ts k l → HasShape ts g m → id_of s (entry k) ≡ Some i → id_of s (entry g) ≡ Some j → (i ≡ j) ↔ (l ≡ m)
      shared k g l m i j a b e f =
          let q = has k l a in
          let r = has g m b in
          let e' = found_id k q.0 q.1 in
          let f' = found_id g r.0 r.1 in
          let x : q.0 ≡ i = cc in
          let y : r.0 ≡ j = cc in
          one_id l m i j (rw x at q.2) (rw y at r.2)

-- ---- function types

-- equal types are one instruction
equal_same : (ds : List Instruction) (a b : Instruction) → NoEqualTypes ds → EqualTypes a b → EqualTypes b a → Memᴰ a ds → Memᴰ b ds → a ≡ b
equal_same [] a b h e f m n = absurd (Memᴰ.not-nil m)
equal_same (x ∷ xs) a b h e f m n = go (Memᴰ.cases_cons m) (Memᴰ.cases_cons n) (equal_same xs a b h.1 e f)
  where
    go : (a ≡ x) ⊎ Memᴰ a xs → (b ≡ x) ⊎ Memᴰ b xs → (Memᴰ a xs → Memᴰ b xs → a ≡ b) → a ≡ b
    go (inl p) (inl q) k = p ∙ sym q
    go (inl p) (inr q) k = absurd (h.0 b q (subst (λ (y : Instruction). EqualTypes y b) p e))
    go (inr p) (inl q) k = absurd (h.0 a p (subst (λ (y : Instruction). EqualTypes y a) q f))
    go (inr p) (inr q) k = k p q

-- of these types void alone has its opcode
is_void : (c : Composite) (id : ℕ) → T (is_routine c) → (routine_of c id).opcode ≡ OpTypeVoid → c ≡ void
is_void (composite k xs) id t e = absurd t
is_void (function xs) id t e = absurd (omega (arith, e))
is_void void id t e = refl

module _ (start : ℕ) (s : State) (h : Sound start [] s) where
  -- one of them is entered under one id, which is the id that it is looked up by
  routine_unique : (c : Composite) (i j : ℕ) → T (is_routine c) → Memᴰ (c, i) s.constants.composites → Memᴰ (c, j) s.constants.composites → i ≡ j
  routine_unique (composite k xs) i j t m n = absurd t
  routine_unique (function xs) i j t m n =
      let e = equal_same s.declarations (type_function i xs) (type_function j xs) h.apart (record { plain = tt; opcode = refl; operands = refl }) (record { plain = tt; opcode = refl; operands = refl }) (h.routines (function xs) i t m) (h.routines (function xs) j t n) in
      let f : Some i ≡ Some j = ap (λ (d : Instruction). d.result) e in cc
  routine_unique void i j t m n =
      let e = equal_same s.declarations (type_void i) (type_void j) h.apart (record { plain = tt; opcode = refl; operands = refl }) (record { plain = tt; opcode = refl; operands = refl }) (h.routines void i t m) (h.routines void j t n) in
      let f : Some i ≡ Some j = ap (λ (d : Instruction). d.result) e in cc

  routine_found : (c : Composite) (i : ℕ) → T (is_routine c) → Memᴰ (c, i) s.constants.composites → lookup same_composite c s.constants.composites ≡ Some i
  routine_found c i t m = go (lookup same_composite c s.constants.composites) refl
    where
      go : (o : Option ℕ) → lookup same_composite c s.constants.composites ≡ o → o ≡ Some i
      go None e = absurd (lookup_out same_composite c s.constants.composites e i m)
      go (Some j) e = ap Some (routine_unique c j i t (lookup_in same_composite c s.constants.composites j e) m)

  -- what a record names is entered under the ids of its signature
  result_is_lem : (o : Option ℕ) (x : ℕ) → ResultIs o s x → return_id s o ≡ x
  result_is_lem None x m = ap (λ (o : Option ℕ). or_else 0 o) (routine_found void x tt m)
  result_is_lem (Some t) x m = ap (λ (o : Option ℕ). or_else 0 o) (found_id start s h t x m)

  ids_are : (ts xs : List ℕ) → AreIds ts s xs → entry_ids s ts ≡ xs
  unfolding entry_ids
  ids_are [] [] a = refl
  ids_are [] (x ∷ xs) a = absurd a
  ids_are (t ∷ ts) [] a = absurd a
  ids_are (t ∷ ts) (x ∷ xs) a =
      let e : entry_id s t ≡ x = ap (λ (o : Option ℕ). or_else 0 o) (found_id start s h t x a.0) in
      let f = ids_are ts xs a.1 in
      λ j. e j ∷ f j

  -- an entered function type or void is what the reader finds under its id
  routine_read : (c : Composite) (i : ℕ) → T (is_routine c) → Memᴰ (c, i) s.constants.composites → declaration_of (instructions s) i ≡ Some (routine_of c i)
  routine_read c i t m =
      let r = no_other start s h i (h.constants.composites c i m) in
      declaration_found i (routine_result c i) (all_declarations start s h (h.routines c i t m)) (all_times start s h i ∙ each_once start s h i r.0 r.1)

  -- an instruction of a plain type is a declaration
  plain_declared : (d : Instruction) → T (plain_type d.opcode) → Memᴰ d (instructions s) → Memᴰ d s.declarations
  plain_declared d t m = go (Memᴰ.append_cases (front start s h) (rw (as_front start s h) at m))
    where
      go : Memᴰ d (front start s h) ⊎ Memᴰ d s.declarations → Memᴰ d s.declarations
      go (inl n) = absurd ((all_quiet (front start s h) (front_quiet start s h) d n).other t)
      go (inr n) = n

  -- where the reader finds void, it is entered
  void_entered : (i : ℕ) → read_void (instructions s) i ≡ true → (j : ℕ) × Memᴰ (void, j) s.constants.composites
  unfolding read_void
  void_entered i e = go (declaration_of (instructions s) i) refl e
    where
      by : (d : Instruction) → d.opcode ≡ OpTypeVoid → Spelt s.types d ⊎ Routine s.constants.composites d → (j : ℕ) × Memᴰ (void, j) s.constants.composites
      by d o (inl p) = absurd (not_shape p.l void 0 tt (sym o ∙ ap (λ (x : Instruction). x.opcode) p.spells))
      by d o (inr r) = (r.id, subst (λ (c : Composite). Memᴰ (c, r.id) s.constants.composites) (is_void r.c r.id r.is (sym (ap (λ (x : Instruction). x.opcode) r.spells) ∙ o)) r.entered)

      go : (o : Option Instruction) → declaration_of (instructions s) i ≡ o → void_by o ≡ true → (j : ℕ) × Memᴰ (void, j) s.constants.composites
      go None f t = let z : ◌≡◌ {A = ℕ} 0 1 = cc in absurd (omega arith)
      go (Some d) f t =
          let o : d.opcode ≡ OpTypeVoid = eqb→eq d.opcode OpTypeVoid (rw t tt) in
          let p : T (plain_type d.opcode) = rw o tt in
          by d o (h.spelt d (plain_declared d p (declaration_in i (instructions s) d f)) p)

  pub functions_declared : (fs : List Function) → ((f : Function) → Memᴰ f fs → Signed f s) → ((i : ℕ) → Memᴰ (void, i) s.constants.composites → VoidReturned fs) → FunctionsDeclared fs s (instructions s)
  unfolding read_function read_void
  functions_declared fs signed voids = record {
    shared = λ f g i j m n a b. (
      λ e.
          let p = function_read (signature_of s f) i a in
          let q = function_read (signature_of s g) j b in
          let z : Some (signature_of s f) ≡ Some (signature_of s g) = sym p ∙ ap (read_function (instructions s)) e ∙ q in cc,
      λ e. let z : Some i ≡ Some j = sym a ∙ ap (λ (xs : List ℕ). lookup same_composite (function xs) s.constants.composites) e ∙ b in cc,
    );
    declared = λ f m.
        let n = signed f m in
        let e : signature_of s f ≡ n.result ∷ n.parameters = let a = result_is_lem f.result n.result n.returns in let b = ids_are f.parameters n.parameters n.takes in λ j. a j ∷ b j in
        let a = routine_found (function (signature_of s f)) n.id tt (rw e n.has) in
        (n.id, a, function_read (signature_of s f) n.id a);
    returns_void = λ f m e. void_read f.result e (signed f m).result (signed f m).returns;
    void_returned = λ i e. let v = void_entered i e in voids v.0 v.1;
  }
    where
      function_read : (xs : List ℕ) (i : ℕ) → lookup same_composite (function xs) s.constants.composites ≡ Some i → read_function (instructions s) i ≡ Some xs
      function_read xs i e = rw (routine_read (function xs) i tt (lookup_in same_composite (function xs) s.constants.composites i e)) refl

      void_read : (o : Option ℕ) → o ≡ None → (x : ℕ) → ResultIs o s x → read_void (instructions s) (return_id s o) ≡ true
      void_read None e x m = rw (routine_found void x tt m, routine_read void x tt m) refl
      void_read (Some t) e x m = let z : ◌≡◌ {A = ℕ} 0 1 = cc in absurd (omega arith)

-- Whatever sheet the definition finds fit, whoever reads its words finds it well declared.
pub demand_3 : Demand3
demand_3 s bytes p e =
    let f = fit_sheet s bytes p e in
    let start = start_of s in
    let h = f.good.sound in
    record {
      found = written_of p.state;
      reads = module_read p.state (omega (arith, f.low)) (all_readable start p.state h (small_listed p.state.capabilities p.state.declarations h.caps));
      written = refl;
      well = well_declared start p.state h;
      entries = entries_declared start p.state h p.seen.types f.good.told;
      functions = functions_declared start p.state h p.seen.functions f.good.functions f.good.voids;
    }

-- The same of the words that Declare leaves in a buffer: where it answers Written, the module stands at the buffer's front.
pub demand_3_of_declare : Demand3OfDeclare
unfolding declare put
demand_3_of_declare s b bytes n bound e = outer (judged s) refl e
  where
    fitting : (p : Progress) → judged s ≡ fit p → (c : Bool) → leb (length (module_words p.state)) (length b) ≡ c
        → (pick c (record { answer = Written (length (module_words p.state)) (bound_of p.state); buffer = put (module_words p.state) b }) (unchanged 16 b)).answer ≡ Written n bound → Accepted s b n bound
    fitting p f true l w =
        let ws = module_words p.state in
        let m : length ws ≡ n = cc in
        let q : bound_of p.state ≡ bound = cc in
        let d = demand_3 s bytes p f in
        let front : take n (declare s b).buffer ≡ ws = rw (f, l) (take_at ws (drop (length ws) b) n m) in
        record {
          progress = p;
          fits = f;
          found = record { found = d.found; reads = rw front d.reads; written = d.written; well = d.well; entries = d.entries; functions = d.functions };
          bound_is = sym q ∙ sym (ap (λ (m : Module). m.bound) d.written);
          rest = rw (f, l) (drop_at ws (drop (length ws) b) n m ∙ ap (λ (k : ℕ). drop k b) m);
        }
    fitting p f false l w = let z : ◌≡◌ {A = ℕ} 0 1 = cc in absurd (omega arith)

    outer : (j : Judged Progress) → judged s ≡ j → (declared_of b j).answer ≡ Written n bound → Accepted s b n bound
    outer (refused k) f w = let z : ◌≡◌ {A = ℕ} 0 1 = cc in absurd (omega arith)
    outer (fit p) f w = fitting p f (leb (length (module_words p.state)) (length b)) refl w
