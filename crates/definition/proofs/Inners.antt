-- What a type's fields give: numbers that fit a word, and a shape that names only entries that the type names. By cases on the
-- fields; choices between numbers go by `pick_le` and `pick_for`, and the table of formats by one computed test.
use Prim.Native.Nat.{ℕ, ◌*◌, ◌≤◌}
use mathlib.Core.Path.{◌≡◌, subst, refl}
use mathlib.Core.List.{List, [], ◌∷◌, Memᴰ}
use mathlib.Core.Logic.{inl, inr}
use Rattle.std.specs.Prelude.{Option, Some, None}
use mathlib.Core.Bool.{Bool, true, false, ◌&&◌}
use native.Mathlib.Omega.{arith}
use lib.Dec.{T, eqb, leb, leb→le, lit≤}
use lib.ListN.{length}
use Rattle.definition.specs.Choice.{pick, every}
use Rattle.definition.specs.Numbers.{ImageFormatUnknown}
use Rattle.definition.specs.Sheet.{Member, TypeInner, TypeEntry}
use Rattle.definition.specs.Sheet.{Scalar, Vector, Matrix, Atomic, Pointer, ValuePointer, Array, Struct, Image, Sampler, AccelerationStructure, RayQuery, BindingArray}
use Rattle.definition.specs.Tests.{inner_types}
use Rattle.definition.specs.Shapes.{Kind, Count, Shape, Format, storage_class, kind_of, formats, format_at, floating, dim_of, image_of, count_of, shape_of, opcode_of}
use Rattle.definition.specs.Shapes.{sint, uint, float, bool, one, many, value_pointer}
use Rattle.definition.specs.Rules.{inner_at, column_stride, has_stride, matrix_stride, element_of}
use Rattle.definition.specs.WellDeclared.{plain_type, plain_entry}
use Rattle.definition.proofs.ByShape.{plain_scalar}
use Rattle.definition.proofs.Truth.{both_true, every_get_or, pick_le, pick_for}
use Rattle.definition.proofs.Sizes.{W, SmallKind, SmallShape}
use Rattle.definition.proofs.Finding.{named}
use Rattle.definition.proofs.Marks.{GoodName}

-- ---- fields that fit

abbrev pub GoodMembers : List Member → Type 0
GoodMembers [] = Unit
GoodMembers (m ∷ ms) = ((m.offset ≤ W) × GoodName m.name) × GoodMembers ms

abbrev pub GoodInner : TypeInner → Type 0
GoodInner (Scalar k w) = w ≤ 255
GoodInner (Vector n k w) = (n ≤ 255) × (w ≤ 255)
GoodInner (Matrix c r w) = (c ≤ 255) × (r ≤ 255) × (w ≤ 255)
GoodInner (Atomic k w) = w ≤ 255
GoodInner (Pointer b s a) = Unit
GoodInner (ValuePointer n k w s a) = (n ≤ 255) × (w ≤ 255)
GoodInner (Array b n d) = (n ≤ W) × (d ≤ W)
GoodInner (Struct n ms) = GoodMembers ms × (length ms ≤ 255)
GoodInner (Image d a c x y) = (a ≤ 255) × (y ≤ 255)
GoodInner (Sampler c) = Unit
GoodInner AccelerationStructure = Unit
GoodInner RayQuery = Unit
GoodInner (BindingArray b n) = n ≤ W

pub class_small : (s : ℕ) → storage_class s ≤ W
class_small s =
    pick_le (eqb s 0) _ _ W (lit≤ tt) (pick_le (eqb s 1) _ _ W (lit≤ tt) (pick_le (eqb s 2) _ _ W (lit≤ tt) (pick_le (eqb s 3) _ _ W (lit≤ tt)
    (pick_le (eqb s 4) _ _ W (lit≤ tt) (pick_le (eqb s 5) _ _ W (lit≤ tt) (lit≤ tt))))))

pub kind_small : (k w : ℕ) → w ≤ 255 → SmallKind (kind_of k w)
unfolding kind_of
kind_small k w h = pick_for SmallKind (eqb k 0) (sint w) _ h (pick_for SmallKind (eqb k 1) (uint w) _ h (pick_for SmallKind (eqb k 2) (float w) bool h tt))

dim_small : (d : ℕ) → dim_of d ≤ W
dim_small d = pick_le (eqb d 0) _ _ W (lit≤ tt) (pick_le (eqb d 1) _ _ W (lit≤ tt) (pick_le (eqb d 2) _ _ W (lit≤ tt) (lit≤ tt)))

-- ---- the table of formats, by one computed test

small_kind : Kind → Bool
small_kind (sint w) = leb w 255
small_kind (uint w) = leb w 255
small_kind (float w) = leb w 255
small_kind bool = true

small_format : Format → Bool
small_format f = leb f.number 255 && small_kind f.kind

all_small : T (every small_format formats)
unfolding formats small_format small_kind
all_small = tt

-- "format 0 to 39": test 10 lets in the formats that the table has, and no other
pub forty_formats : length formats ≡ 40
unfolding formats
forty_formats = refl

small_kind_lem : (k : Kind) → T (small_kind k) → SmallKind k
unfolding small_kind
small_kind_lem (sint w) t = leb→le w 255 t
small_kind_lem (uint w) t = leb→le w 255 t
small_kind_lem (float w) t = leb→le w 255 t
small_kind_lem bool t = tt

format_small : (x : ℕ) → ((format_at x).number ≤ 255) × SmallKind (format_at x).kind
unfolding small_format small_kind
format_small x =
    let t = every_get_or small_format formats x (floating ImageFormatUnknown) all_small tt in
    let q = both_true (leb (format_at x).number 255) (small_kind (format_at x).kind) t in
    (leb→le (format_at x).number 255 q.0, small_kind_lem (format_at x).kind q.1)

-- ---- the shape of a type

pub record ShapeFacts (i : TypeInner) (l : Shape) : Type 0 where
  pub small : SmallShape l
  pub references : (b : ℕ) → Memᴰ b (named l) → Memᴰ b (inner_types i)

image_facts : (d a c x y : ℕ) → a ≤ 255 → y ≤ 255 → ShapeFacts (Image d a c x y) (image_of d a c x y)
unfolding image_of
image_facts d a c x y ha hy =
    let f = format_small x in
    pick_for (ShapeFacts (Image d a c x y)) (eqb c 0) _ _
    (record { small = (kind_small x 4 (lit≤ tt), (dim_small d, (lit≤ tt, (omega arith, (omega arith, (lit≤ tt, (lit≤ tt, tt)))))), inl refl); references = λ b m. m })
    (pick_for (ShapeFacts (Image d a c x y)) (eqb c 1) _ _
    (record { small = (lit≤ tt, (dim_small d, (lit≤ tt, (omega arith, (omega arith, (lit≤ tt, (lit≤ tt, tt)))))), inl refl); references = λ b m. m })
    (record { small = (f.1, (dim_small d, (lit≤ tt, (omega arith, (lit≤ tt, (lit≤ tt, (omega (arith, f.0), tt)))))), inr refl); references = λ b m. m }))

value_facts : (n k w s a : ℕ) → n ≤ 255 → w ≤ 255 → ShapeFacts (ValuePointer n k w s a) (value_pointer (count_of n) (kind_of k w) (storage_class s))
value_facts n k w s a hn hw =
    pick_for (λ (c : Count). ShapeFacts (ValuePointer n k w s a) (value_pointer c (kind_of k w) (storage_class s))) (eqb n 0) one (many n)
    (record { small = (class_small s, kind_small k w hw); references = λ b m. m })
    (record { small = (class_small s, omega arith, kind_small k w hw); references = λ b m. m })

-- every type that has a shape
abbrev ShapedFacts : TypeInner → Option Shape → Type 0
ShapedFacts i None = Unit
ShapedFacts i (Some l) = ShapeFacts i l

shaped_facts : (i : TypeInner) → GoodInner i → ShapedFacts i (shape_of i)
shaped_facts (Scalar k w) g = record { small = kind_small k w g; references = λ b m. m }
shaped_facts (Vector n k w) g = record { small = (omega arith, kind_small k w g.1); references = λ b m. m }
shaped_facts (Matrix c r w) g = record { small = (omega arith, omega arith, g.2); references = λ b m. m }
shaped_facts (Atomic k w) g = record { small = kind_small k w g; references = λ b m. m }
shaped_facts (Pointer b s a) g = record { small = class_small s; references = λ b m. m }
shaped_facts (ValuePointer n k w s a) g = value_facts n k w s a g.0 g.1
shaped_facts (Array b n d) g = tt
shaped_facts (Struct n ms) g = tt
shaped_facts (Image d a c x y) g = image_facts d a c x y g.0 g.1
shaped_facts (Sampler c) g = record { small = tt; references = λ b m. m }
shaped_facts AccelerationStructure g = record { small = tt; references = λ b m. m }
shaped_facts RayQuery g = record { small = tt; references = λ b m. m }
shaped_facts (BindingArray b n) g = tt

pub shape_facts : (i : TypeInner) (l : Shape) → GoodInner i → shape_of i ≡ Some l → ShapeFacts i l
shape_facts i l g e = subst (ShapedFacts i) e (shaped_facts i g)

-- a type that is no aggregate and no pointer has such a shape
abbrev PlainShaped : Option Shape → Type 0
PlainShaped None = Unit
PlainShaped (Some l) = T (plain_type (opcode_of l))

plain_shaped : (i : TypeInner) → T (plain_entry i) → PlainShaped (shape_of i)
unfolding image_of
plain_shaped (Scalar k w) t = plain_scalar (kind_of k w)
plain_shaped (Vector n k w) t = tt
plain_shaped (Matrix c r w) t = tt
plain_shaped (Atomic k w) t = plain_scalar (kind_of k w)
plain_shaped (Pointer b s a) t = absurd t
plain_shaped (ValuePointer n k w s a) t = absurd t
plain_shaped (Array b n d) t = tt
plain_shaped (Struct n ms) t = tt
plain_shaped (Image d a c x y) t = pick_for (λ (l : Shape). T (plain_type (opcode_of l))) (eqb c 0) _ _ tt (pick_for (λ (l : Shape). T (plain_type (opcode_of l))) (eqb c 1) _ _ tt tt)
plain_shaped (Sampler c) t = tt
plain_shaped AccelerationStructure t = tt
plain_shaped RayQuery t = tt
plain_shaped (BindingArray b n) t = tt

pub plain_shape : (i : TypeInner) (l : Shape) → T (plain_entry i) → shape_of i ≡ Some l → T (plain_type (opcode_of l))
plain_shape i l t e = subst PlainShaped e (plain_shaped i t)

-- ---- strides

abbrev pub SmallStride : Option ℕ → Type 0
SmallStride None = Unit
SmallStride (Some n) = n ≤ W

stride_le : (b : Bool) (w : ℕ) → w ≤ 255 → pick b 2 4 * w ≤ W
stride_le true w h = omega arith
stride_le false w h = omega arith

stride_small : (r w : ℕ) → w ≤ 255 → column_stride r w ≤ W
stride_small r w h = stride_le (eqb r 2) w h

matrix_small : (i : TypeInner) → GoodInner i → SmallStride (matrix_stride i)
matrix_small (Scalar k w) g = tt
matrix_small (Vector n k w) g = tt
matrix_small (Matrix c r w) g = pick_for SmallStride (has_stride r w) _ _ (stride_small r w g.2) tt
matrix_small (Atomic k w) g = tt
matrix_small (Pointer b s a) g = tt
matrix_small (ValuePointer n k w s a) g = tt
matrix_small (Array b n d) g = tt
matrix_small (Struct n ms) g = tt
matrix_small (Image d a c x y) g = tt
matrix_small (Sampler c) g = tt
matrix_small AccelerationStructure g = tt
matrix_small RayQuery g = tt
matrix_small (BindingArray b n) g = tt

-- every type read so far has fields that fit
abbrev pub GoodTypes : List TypeEntry → Type 0
GoodTypes ts = (h : ℕ) → GoodInner (inner_at ts h)

element_good : (ts : List TypeEntry) → GoodTypes ts → (i : TypeInner) → GoodInner i → GoodInner (element_of ts i)
element_good ts gs (Scalar k w) g = g
element_good ts gs (Vector n k w) g = g
element_good ts gs (Matrix c r w) g = g
element_good ts gs (Atomic k w) g = g
element_good ts gs (Pointer b s a) g = g
element_good ts gs (ValuePointer n k w s a) g = g
element_good ts gs (Array b n d) g = gs b
element_good ts gs (Struct n ms) g = g
element_good ts gs (Image d a c x y) g = g
element_good ts gs (Sampler c) g = g
element_good ts gs AccelerationStructure g = g
element_good ts gs RayQuery g = g
element_good ts gs (BindingArray b n) g = g

-- the stride of a member of a type
pub member_stride : (ts : List TypeEntry) → GoodTypes ts → (t : ℕ) → SmallStride (matrix_stride (element_of ts (inner_at ts t)))
member_stride ts gs t = matrix_small (element_of ts (inner_at ts t)) (element_good ts gs (inner_at ts t) (gs t))
