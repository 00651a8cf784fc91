-- Facts by cases on a shape: one line for each shape. The last one, `told`, is a left inverse: the reader of types finds the shape in
-- its instruction, once it finds what that names; so no two shapes have to be compared with each other.
use Prim.Native.Nat.{ℕ, suc, ◌*◌, ◌<◌, ◌≤◌, ◌/◌, ◌%◌}
use mathlib.Core.Path.{◌≡◌, refl, sym, ap, ◌∙◌, subst}
use mathlib.Core.List.{List, [], ◌∷◌, ◌++◌, append-nil, Memᴰ}
use Rattle.std.specs.Prelude.{Option, Some, None}
use mathlib.Core.Bool.{Bool, true, false, ◌&&◌, beq}
use native.Mathlib.Omega.{arith}
use lib.Dec.{eqb, ltb, T, ltb→lt, lit<, lit≤}
use borrow.Author.Tests.{eq-eqb, ne_eqb, eqb-true, eqb-false}
use Rattle.definition.specs.Instructions.{Instruction, type_op}
use Rattle.definition.specs.Reader.{uses, ids_among, layout_of, formed}
use Rattle.definition.specs.ReadTypes.{declaration_of, bytes_of, scalar_by, read_scalar, read_vector, type_by}
use Rattle.definition.specs.Shapes.{Kind, Shape, Key, inner, sized, rank, rank_of, opcode_of, operands_of, type_of}
use Rattle.definition.specs.Shapes.{sint, uint, float, bool, one, many, scalar, vector, matrix, pointer, value_pointer, image, sampler, acceleration_structure, ray_query, binding_array, binding_pointer, entry, shape}
use Rattle.definition.specs.WellDeclared.{plain_type, EqualTypes, declares_id, needs, int_needs, float_needs}
use Rattle.definition.specs.Finding.{capabilities_of, kind_capabilities}
use Rattle.definition.proofs.Truth.{both_true, true_is, alike_is}
use Rattle.definition.proofs.Images.{images_agree}
use Rattle.definition.proofs.Few.{few_numbers}
use Rattle.definition.proofs.Sizes.{W, Sized, SmallShape, SmallKey}

-- the ids that a shape's instruction uses
abbrev pub inner_ids : Option Key → ℕ → List ℕ
inner_ids None x = []
inner_ids (Some k) x = x ∷ []

abbrev pub length_ids : Option ℕ → ℕ → List ℕ
length_ids None y = []
length_ids (Some n) y = y ∷ []

-- an instruction that the reader takes, with one at most of numbers up to the end
pub record Formed (d : Instruction) : Type 0 where
  pub small : d.opcode < 65536
  pub known : (layout_of d.opcode).known ≡ true
  pub typed : (layout_of d.opcode).typed ≡ declares_id d.type
  pub declares : (layout_of d.opcode).declares ≡ declares_id d.result
  pub operands : formed (layout_of d.opcode).operands d.operands ≡ true
  pub few : few_numbers (layout_of d.opcode).operands d.operands ≡ true

-- the same as one test, which the checker computes
abbrev pub takes : Instruction → Bool
takes d =
    ltb d.opcode 65536
    && ((layout_of d.opcode).known
    && (beq (layout_of d.opcode).typed (declares_id d.type)
    && (beq (layout_of d.opcode).declares (declares_id d.result)
    && (formed (layout_of d.opcode).operands d.operands
    && few_numbers (layout_of d.opcode).operands d.operands))))

pub taken : {d : Instruction} → T (takes d) → Formed d
taken {d} t =
    let a = both_true (ltb d.opcode 65536) _ t in
    let b = both_true (layout_of d.opcode).known _ a.1 in
    let c = both_true (beq (layout_of d.opcode).typed (declares_id d.type)) _ b.1 in
    let e = both_true (beq (layout_of d.opcode).declares (declares_id d.result)) _ c.1 in
    let g = both_true (formed (layout_of d.opcode).operands d.operands) _ e.1 in
    record {
      small = ltb→lt d.opcode 65536 a.0;
      known = true_is (layout_of d.opcode).known b.0;
      typed = alike_is (layout_of d.opcode).typed (declares_id d.type) c.0;
      declares = alike_is (layout_of d.opcode).declares (declares_id d.result) e.0;
      operands = true_is (formed (layout_of d.opcode).operands d.operands) g.0;
      few = true_is (few_numbers (layout_of d.opcode).operands d.operands) g.1;
    }

-- the rules count widths in bytes, the reader in bits
scaled : (w n : ℕ) → eqb (8 * w) (8 * n) ≡ eqb w n
scaled w n = go (eqb w n) refl
  where
    go : (b : Bool) → eqb w n ≡ b → eqb (8 * w) (8 * n) ≡ b
    go true e = eq-eqb (8 * w) (8 * n) (ap (λ (x : ℕ). 8 * x) (eqb-true w n e))
    go false e = ne_eqb (8 * w) (8 * n) (λ q. eqb-false w n e (omega arith))

integers_agree : (w : ℕ) → int_needs (8 * w) ≡ kind_capabilities (sint w)
integers_agree w = rw (scaled w 1, scaled w 2, scaled w 8)

floats_agree : (w : ℕ) → float_needs (8 * w) ≡ kind_capabilities (float w)
floats_agree w = rw (scaled w 2, scaled w 8)

-- what a shape names lies less deep
abbrev pub Deeper : Option Key → ℕ → Type 0
Deeper None n = Unit
Deeper (Some k) n = rank k < n

abbrev pub Inside : Option ℕ → ℕ → Type 0
Inside None r = Unit
Inside (Some n) r = 0 < r

-- .. and is small where the shape is
abbrev pub SmallIn : Option Key → Type 0
SmallIn None = Unit
SmallIn (Some k) = SmallKey k

abbrev pub SmallLength : Option ℕ → Type 0
SmallLength None = Unit
SmallLength (Some n) = n ≤ W

-- a plain type names plain types only
abbrev pub PlainIn : Option Key → Type 0
PlainIn None = Unit
PlainIn (Some (shape l)) = T (plain_type (opcode_of l))
PlainIn (Some (entry h)) = ⊥

pub plain_scalar : (k : Kind) → T (plain_type (opcode_of (scalar k)))
plain_scalar (sint w) = tt
plain_scalar (uint w) = tt
plain_scalar (float w) = tt
plain_scalar bool = tt

-- ---- what the reader finds: a shape's own declaration tells it, once the reader finds what it names

-- the reader finds a scalar or a vector under an id
abbrev pub ReadAs : List Instruction → Shape → ℕ → Type 0
ReadAs is (scalar k) x = read_scalar is x ≡ Some k
ReadAs is (vector n k) x = read_vector is x ≡ Some (record { count = n; kind = k })
ReadAs is (matrix c r w) x = Unit
ReadAs is (pointer b c) x = Unit
ReadAs is (value_pointer n k c) x = Unit
ReadAs is (image k d p a m s f) x = Unit
ReadAs is sampler x = Unit
ReadAs is acceleration_structure x = Unit
ReadAs is ray_query x = Unit
ReadAs is (binding_array b n) x = Unit
ReadAs is (binding_pointer b n s a) x = Unit

abbrev pub ReadIn : List Instruction → Option Key → ℕ → Type 0
ReadIn is None x = Unit
ReadIn is (Some (entry h)) x = Unit
ReadIn is (Some (shape l)) x = ReadAs is l x

bytes_of_lem : (w : ℕ) → bytes_of (8 * w) ≡ Some w
bytes_of_lem w =
    let r : (8 * w) % 8 ≡ 0 = omega arith in
    let q : (8 * w) / 8 ≡ w = omega arith in
    rw (r, q) refl

pub scalar_by_lem : (k : Kind) (i x y : ℕ) → scalar_by (type_of (scalar k) i x y) ≡ Some k
scalar_by_lem (sint w) i x y = rw (bytes_of_lem w) refl
scalar_by_lem (uint w) i x y = rw (bytes_of_lem w) refl
scalar_by_lem (float w) i x y = rw (bytes_of_lem w) refl
scalar_by_lem bool i x y = refl

-- what holds of each shape
pub record Facts (l : Shape) : Type 0 where
  pub used : (x y : ℕ) → ids_among (layout_of (opcode_of l)).operands (operands_of l x y) ≡ inner_ids (inner l) x ++ length_ids (sized l) y
  pub formed : (id x y : ℕ) → Formed (type_of l id x y)
  pub fits : SmallShape l → (last id x y : ℕ) → id ≤ last → x ≤ last → y ≤ last → Sized last (type_of l id x y)
  pub needed : SmallShape l → (id x y : ℕ) → needs (type_of l id x y) ≡ capabilities_of l
  pub deeper : Deeper (inner l) (rank_of l)
  pub inside : Inside (sized l) (rank_of l)
  pub small_inner : SmallShape l → SmallIn (inner l)
  pub small-length : SmallShape l → SmallLength (sized l)
  pub shallow : rank_of l ≤ 2
  pub plain_inner : T (plain_type (opcode_of l)) → PlainIn (inner l)
  pub plain_sized : T (plain_type (opcode_of l)) → sized l ≡ None
  pub told : (is : List Instruction) (id x y : ℕ) → T (plain_type (opcode_of l)) → ReadIn is (inner l) x → type_by is (type_of l id x y) ≡ Some l

pub facts : (l : Shape) → Facts l
unfolding needs
facts (scalar (sint w)) = record { used = λ x y. refl; formed = λ id x y. taken tt; fits = λ h last id x y i j k. record { words = λ B p q. (omega arith, (omega arith, (omega arith, tt))); short = lit< tt }; needed = λ h id x y. integers_agree w; deeper = tt; inside = tt; small_inner = λ h. tt; small-length = λ h. tt; shallow = lit≤ tt; plain_inner = λ t. tt; plain_sized = λ t. refl; told = λ is id x y t r. rw (bytes_of_lem w) refl }
facts (scalar (uint w)) = record { used = λ x y. refl; formed = λ id x y. taken tt; fits = λ h last id x y i j k. record { words = λ B p q. (omega arith, (omega arith, (omega arith, tt))); short = lit< tt }; needed = λ h id x y. integers_agree w; deeper = tt; inside = tt; small_inner = λ h. tt; small-length = λ h. tt; shallow = lit≤ tt; plain_inner = λ t. tt; plain_sized = λ t. refl; told = λ is id x y t r. rw (bytes_of_lem w) refl }
facts (scalar (float w)) = record { used = λ x y. refl; formed = λ id x y. taken tt; fits = λ h last id x y i j k. record { words = λ B p q. (omega arith, (omega arith, tt)); short = lit< tt }; needed = λ h id x y. floats_agree w; deeper = tt; inside = tt; small_inner = λ h. tt; small-length = λ h. tt; shallow = lit≤ tt; plain_inner = λ t. tt; plain_sized = λ t. refl; told = λ is id x y t r. rw (bytes_of_lem w) refl }
facts (scalar bool) = record { used = λ x y. refl; formed = λ id x y. taken tt; fits = λ h last id x y i j k. record { words = λ B p q. (omega arith, tt); short = lit< tt }; needed = λ h id x y. refl; deeper = tt; inside = tt; small_inner = λ h. tt; small-length = λ h. tt; shallow = lit≤ tt; plain_inner = λ t. tt; plain_sized = λ t. refl; told = λ is id x y t r. refl }
facts (vector n k) = record { used = λ x y. refl; formed = λ id x y. taken tt; fits = λ h last id x y i j k. record { words = λ B p q. (omega arith, (omega arith, (omega arith, tt))); short = lit< tt }; needed = λ h id x y. refl; deeper = lit< tt; inside = tt; small_inner = λ h. h.1; small-length = λ h. tt; shallow = lit≤ tt; plain_inner = λ t. plain_scalar k; plain_sized = λ t. refl; told = λ is id x y t r. rw r refl }
facts (matrix c r w) = record { used = λ x y. refl; formed = λ id x y. taken tt; fits = λ h last id x y i j k. record { words = λ B p q. (omega arith, (omega arith, (omega arith, tt))); short = lit< tt }; needed = λ h id x y. refl; deeper = lit< tt; inside = tt; small_inner = λ h. (h.1, h.2); small-length = λ h. tt; shallow = lit≤ tt; plain_inner = λ t. tt; plain_sized = λ t. refl; told = λ is id x y t r. rw r refl }
facts (pointer b c) = record { used = λ x y. refl; formed = λ id x y. taken tt; fits = λ h last id x y i j k. record { words = λ B p q. (omega arith, (omega arith, (omega arith, tt))); short = lit< tt }; needed = λ h id x y. refl; deeper = lit< tt; inside = tt; small_inner = λ h. tt; small-length = λ h. tt; shallow = lit≤ tt; plain_inner = λ t. absurd t; plain_sized = λ t. refl; told = λ is id x y t r. absurd t }
facts (value_pointer one k c) = record { used = λ x y. refl; formed = λ id x y. taken tt; fits = λ h last id x y i j k. record { words = λ B p q. (omega arith, (omega arith, (omega arith, tt))); short = lit< tt }; needed = λ h id x y. refl; deeper = lit< tt; inside = tt; small_inner = λ h. h.1; small-length = λ h. tt; shallow = lit≤ tt; plain_inner = λ t. absurd t; plain_sized = λ t. refl; told = λ is id x y t r. absurd t }
facts (value_pointer (many n) k c) = record { used = λ x y. refl; formed = λ id x y. taken tt; fits = λ h last id x y i j k. record { words = λ B p q. (omega arith, (omega arith, (omega arith, tt))); short = lit< tt }; needed = λ h id x y. refl; deeper = lit< tt; inside = tt; small_inner = λ h. (h.1, h.2); small-length = λ h. tt; shallow = lit≤ tt; plain_inner = λ t. absurd t; plain_sized = λ t. refl; told = λ is id x y t r. absurd t }
facts (image k d p a m s f) = record { used = λ x y. refl; formed = λ id x y. taken tt; fits = λ h last id x y i j k. record { words = λ B u q. (omega arith, (omega arith, (omega arith, (omega arith, (omega arith, (omega arith, (omega arith, (omega arith, tt)))))))); short = lit< tt }; needed = λ h id x y. images_agree d a s f h.2; deeper = lit< tt; inside = tt; small_inner = λ h. h.0; small-length = λ h. tt; shallow = lit≤ tt; plain_inner = λ t. plain_scalar k; plain_sized = λ t. refl; told = λ is id x y t r. rw r refl }
facts sampler = record { used = λ x y. refl; formed = λ id x y. taken tt; fits = λ h last id x y i j k. record { words = λ B p q. (omega arith, tt); short = lit< tt }; needed = λ h id x y. refl; deeper = tt; inside = tt; small_inner = λ h. tt; small-length = λ h. tt; shallow = lit≤ tt; plain_inner = λ t. tt; plain_sized = λ t. refl; told = λ is id x y t r. refl }
facts acceleration_structure = record { used = λ x y. refl; formed = λ id x y. taken tt; fits = λ h last id x y i j k. record { words = λ B p q. (omega arith, tt); short = lit< tt }; needed = λ h id x y. refl; deeper = tt; inside = tt; small_inner = λ h. tt; small-length = λ h. tt; shallow = lit≤ tt; plain_inner = λ t. tt; plain_sized = λ t. refl; told = λ is id x y t r. refl }
facts ray_query = record { used = λ x y. refl; formed = λ id x y. taken tt; fits = λ h last id x y i j k. record { words = λ B p q. (omega arith, tt); short = lit< tt }; needed = λ h id x y. refl; deeper = tt; inside = tt; small_inner = λ h. tt; small-length = λ h. tt; shallow = lit≤ tt; plain_inner = λ t. tt; plain_sized = λ t. refl; told = λ is id x y t r. refl }
facts (binding_array b n) = record { used = λ x y. refl; formed = λ id x y. taken tt; fits = λ h last id x y i j k. record { words = λ B p q. (omega arith, (omega arith, (omega arith, tt))); short = lit< tt }; needed = λ h id x y. refl; deeper = lit< tt; inside = lit< tt; small_inner = λ h. tt; small-length = λ h. h; shallow = lit≤ tt; plain_inner = λ t. absurd t; plain_sized = λ t. absurd t; told = λ is id x y t r. absurd t }
facts (binding_pointer b n s a) = record { used = λ x y. refl; formed = λ id x y. taken tt; fits = λ h last id x y i j k. record { words = λ B p q. (omega arith, (omega arith, (omega arith, tt))); short = lit< tt }; needed = λ h id x y. refl; deeper = lit< tt; inside = tt; small_inner = λ h. h.0; small-length = λ h. tt; shallow = lit≤ tt; plain_inner = λ t. absurd t; plain_sized = λ t. refl; told = λ is id x y t r. absurd t }

pub uses_type : (l : Shape) (id x y : ℕ) → uses (type_of l id x y) ≡ inner_ids (inner l) x ++ length_ids (sized l) y
unfolding uses
uses_type l id x y = (facts l).used x y

plain_used : (l : Shape) (x y : ℕ) → T (plain_type (opcode_of l)) → ids_among (layout_of (opcode_of l)).operands (operands_of l x y) ≡ inner_ids (inner l) x
plain_used l x y t = (facts l).used x y ∙ (ap (λ (o : Option ℕ). inner_ids (inner l) x ++ length_ids o y) ((facts l).plain_sized t) ∙ append-nil (inner_ids (inner l) x))

abbrev pub FitsLength : Option ℕ → ℕ → Type 0
FitsLength None y = y ≡ 0
FitsLength (Some n) y = Unit

-- the id that stands for a shape's inner type
abbrev pub FitsIn : List (Key × ℕ) → Option Key → ℕ → Type 0
FitsIn types None x = x ≡ 0
FitsIn types (Some k) x = Memᴰ (k, x) types

-- declarations in which the reader finds a scalar or a vector under an id
abbrev spelled : Shape → ℕ → List Instruction
spelled (scalar k) x = type_of (scalar k) x 0 0 ∷ []
spelled (vector n k) x = type_of (vector n k) x (suc x) 0 ∷ type_of (scalar k) (suc x) 0 0 ∷ []
spelled (matrix c r w) x = []
spelled (pointer b c) x = []
spelled (value_pointer n k c) x = []
spelled (image k d p a m s f) x = []
spelled sampler x = []
spelled acceleration_structure x = []
spelled ray_query x = []
spelled (binding_array b n) x = []
spelled (binding_pointer b n s a) x = []

abbrev spelling : Option Key → ℕ → List Instruction
spelling None x = []
spelling (Some (entry h)) x = []
spelling (Some (shape l)) x = spelled l x

spelled_out : (l : Shape) (x : ℕ) → ReadAs (spelled l x) l x
unfolding read_scalar read_vector declaration_of
spelled_out (scalar k) x = rw (eq-eqb x x refl) (scalar_by_lem k x 0 0)
spelled_out (vector n k) x = rw (eq-eqb x x refl, ne_eqb (suc x) x (λ e. omega arith), eq-eqb (suc x) (suc x) refl, scalar_by_lem k (suc x) 0 0) refl
spelled_out (matrix c r w) x = tt
spelled_out (pointer b c) x = tt
spelled_out (value_pointer n k c) x = tt
spelled_out (image k d p a m s f) x = tt
spelled_out sampler x = tt
spelled_out acceleration_structure x = tt
spelled_out ray_query x = tt
spelled_out (binding_array b n) x = tt
spelled_out (binding_pointer b n s a) x = tt

spelt : (o : Option Key) (x : ℕ) → ReadIn (spelling o x) o x
spelt None x = tt
spelt (Some (entry h)) x = tt
spelt (Some (shape l)) x = spelled_out l x

one_spelling : (o p : Option Key) (x y : ℕ) → o ≡ p → inner_ids o x ≡ inner_ids p y → spelling o x ≡ spelling p y
one_spelling o p x y e = subst (λ (q : Option Key). inner_ids o x ≡ inner_ids q y → spelling o x ≡ spelling q y) e (go o)
  where
    go : (o : Option Key) → inner_ids o x ≡ inner_ids o y → spelling o x ≡ spelling o y
    go None f = refl
    go (Some k) f = let q : x ≡ y = cc in ap (spelling (Some k)) q

module _ (types : List (Key × ℕ)) (injective : (l m : Shape) (i : ℕ) → Memᴰ (shape l, i) types → Memᴰ (shape m, i) types → l ≡ m) where
  same_inner : (o p : Option Key) (x y : ℕ) → inner_ids o x ≡ inner_ids p y → FitsIn types o x → FitsIn types p y → PlainIn o → PlainIn p → o ≡ p
  same_inner None None x y e f g a b = refl
  same_inner None (Some (entry h)) x y e f g a b = absurd b
  same_inner None (Some (shape m)) x y e f g a b = cc
  same_inner (Some (entry h)) None x y e f g a b = absurd a
  same_inner (Some (entry h)) (Some k) x y e f g a b = absurd a
  same_inner (Some (shape l)) None x y e f g a b = cc
  same_inner (Some (shape l)) (Some (entry h)) x y e f g a b = absurd b
  same_inner (Some (shape l)) (Some (shape m)) x y e f g a b =
      let q : x ≡ y = cc in
      ap (λ (n : Shape). Some (shape n)) (injective l m y (rw q at f) g)

  -- shapes whose type declarations are equal are one: a reader who finds what both name finds one shape
  pub equal_types_same : (l m : Shape) (i j x y x' y' : ℕ) → FitsIn types (inner l) x → FitsIn types (inner m) x' → EqualTypes (type_of l i x y) (type_of m j x' y') → l ≡ m
  equal_types_same l m i j x y x' y' f g t =
      let tm : T (plain_type (opcode_of m)) = rw (← t.opcode) t.plain in
      let ids : inner_ids (inner l) x ≡ inner_ids (inner m) x' = sym (plain_used l x y t.plain) ∙ (ap (λ (o : ℕ). ids_among (layout_of o).operands (operands_of l x y)) t.opcode ∙ (ap (λ (xs : List ℕ). ids_among (layout_of (opcode_of m)).operands xs) t.operands ∙ plain_used m x' y' tm)) in
      let same : inner l ≡ inner m = same_inner (inner l) (inner m) x x' ids f g ((facts l).plain_inner t.plain) ((facts m).plain_inner tm) in
      let is = spelling (inner l) x in
      let a : type_by is (type_of l i x y) ≡ Some l = (facts l).told is i x y t.plain (spelt (inner l) x) in
      let b : type_by is (type_of m j x' y') ≡ Some m = (facts m).told is j x' y' tm (subst (λ (ks : List Instruction). ReadIn ks (inner m) x') (one_spelling (inner m) (inner l) x' x (sym same) (sym ids)) (spelt (inner m) x')) in
      let c : type_by is (type_of l i x y) ≡ type_by is (type_of m j x' y') = ap (λ (o : ℕ). type_by is (type_op o i (operands_of l x y))) t.opcode ∙ ap (λ (xs : List ℕ). type_by is (type_op (opcode_of m) i xs)) t.operands in
      let d : Some l ≡ Some m = sym a ∙ (c ∙ b) in
      cc
