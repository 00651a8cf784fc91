-- Shapes of types and keys ("Rules", the paragraph on ids), and the instruction that declares a shape.
use Rattle.std.specs.Prelude.{ℕ, ◌*◌, List, [], ◌∷◌, eqb, get_or}
use Rattle.std.specs.Prelude.{Option, Some, None}
use Rattle.std.proofs.Math.Decide.{ℕ_discrete}
use Rattle.definition.specs.Choice.{pick}
use Rattle.definition.specs.Numbers.{StorageClassUniformConstant, StorageClassUniform, StorageClassWorkgroup, StorageClassPrivate, StorageClassFunction, StorageClassPushConstant, StorageClassStorageBuffer}
use Rattle.definition.specs.Numbers.{ImageFormatUnknown, ImageFormatR8, ImageFormatR8Snorm, ImageFormatR8ui, ImageFormatR8i, ImageFormatR16ui, ImageFormatR16i, ImageFormatR16f, ImageFormatRg8, ImageFormatRg8Snorm, ImageFormatRg8ui, ImageFormatRg8i, ImageFormatR32ui, ImageFormatR32i, ImageFormatR32f, ImageFormatRg16ui, ImageFormatRg16i, ImageFormatRg16f, ImageFormatRgba8, ImageFormatRgba8Snorm, ImageFormatRgba8ui, ImageFormatRgba8i, ImageFormatRgb10a2ui, ImageFormatRgb10A2, ImageFormatR11fG11fB10f, ImageFormatRg32ui, ImageFormatRg32i, ImageFormatRg32f, ImageFormatRgba16ui, ImageFormatRgba16i, ImageFormatRgba16f, ImageFormatRgba32ui, ImageFormatRgba32i, ImageFormatRgba32f, ImageFormatR16, ImageFormatR16Snorm, ImageFormatRg16, ImageFormatRg16Snorm, ImageFormatRgba16, ImageFormatRgba16Snorm}
use Rattle.definition.specs.Numbers.{Dim1D, Dim2D, Dim3D, DimCube}
use Rattle.definition.specs.Numbers.{OpTypeBool, OpTypeInt, OpTypeFloat, OpTypeVector, OpTypeMatrix, OpTypeImage, OpTypeSampler, OpTypeArray, OpTypePointer, OpTypeRayQueryKHR, OpTypeAccelerationStructureKHR}
use Rattle.definition.specs.Instructions.{Instruction, type_op}
use Rattle.definition.specs.Sheet.{TypeInner, Scalar, Vector, Matrix, Atomic, Pointer, ValuePointer, Array, Struct, Image, Sampler, AccelerationStructure, RayQuery, BindingArray, function_space, private_space, work_group_space, uniform_space, storage_space, handle_space}

-- ---- "A space's storage class is that of `map_storage_class`."

abbrev pub storage_class : ℕ → ℕ
storage_class s =
    pick (eqb s function_space) StorageClassFunction
    (pick (eqb s private_space) StorageClassPrivate
    (pick (eqb s work_group_space) StorageClassWorkgroup
    (pick (eqb s uniform_space) StorageClassUniform
    (pick (eqb s storage_space) StorageClassStorageBuffer
    (pick (eqb s handle_space) StorageClassUniformConstant
    StorageClassPushConstant)))))

-- ---- scalars: kind and width in bytes; a Bool has one width, so it carries none

pub data Kind : Type 0 where
  sint : ℕ → Kind
  uint : ℕ → Kind
  float : ℕ → Kind
  bool : Kind
  deriving Discrete as Kind-discrete

unfoldable pub kind_of : ℕ → ℕ → Kind
kind_of k w = pick (eqb k 0) (sint w) (pick (eqb k 1) (uint w) (pick (eqb k 2) (float w) bool))

-- ---- storage formats, "in the order of the arms of `From<StorageFormat>`"

pub record Format : Type 0 where
  pub number : ℕ
  pub kind : Kind

-- "A storage format's sampled kind is Uint or Sint if its name ends so, else Float.", "its sampled type a scalar of width 4"
abbrev pub unsigned : ℕ → Format
unsigned f = record { number = f; kind = uint 4 }

abbrev pub signed : ℕ → Format
signed f = record { number = f; kind = sint 4 }

abbrev pub floating : ℕ → Format
floating f = record { number = f; kind = float 4 }

unfoldable pub formats : List Format
formats =
    floating ImageFormatR8 ∷ floating ImageFormatR8Snorm ∷ unsigned ImageFormatR8ui ∷ signed ImageFormatR8i
    ∷ unsigned ImageFormatR16ui ∷ signed ImageFormatR16i ∷ floating ImageFormatR16f
    ∷ floating ImageFormatRg8 ∷ floating ImageFormatRg8Snorm ∷ unsigned ImageFormatRg8ui ∷ signed ImageFormatRg8i
    ∷ unsigned ImageFormatR32ui ∷ signed ImageFormatR32i ∷ floating ImageFormatR32f
    ∷ unsigned ImageFormatRg16ui ∷ signed ImageFormatRg16i ∷ floating ImageFormatRg16f
    ∷ floating ImageFormatRgba8 ∷ floating ImageFormatRgba8Snorm ∷ unsigned ImageFormatRgba8ui ∷ signed ImageFormatRgba8i
    ∷ floating ImageFormatUnknown
    ∷ unsigned ImageFormatRgb10a2ui ∷ floating ImageFormatRgb10A2 ∷ floating ImageFormatR11fG11fB10f
    ∷ unsigned ImageFormatRg32ui ∷ signed ImageFormatRg32i ∷ floating ImageFormatRg32f
    ∷ unsigned ImageFormatRgba16ui ∷ signed ImageFormatRgba16i ∷ floating ImageFormatRgba16f
    ∷ unsigned ImageFormatRgba32ui ∷ signed ImageFormatRgba32i ∷ floating ImageFormatRgba32f
    ∷ floating ImageFormatR16 ∷ floating ImageFormatR16Snorm ∷ floating ImageFormatRg16 ∷ floating ImageFormatRg16Snorm
    ∷ floating ImageFormatRgba16 ∷ floating ImageFormatRgba16Snorm ∷ []

abbrev pub format_at : ℕ → Format
format_at f = get_or formats f (floating ImageFormatUnknown)

-- ---- shapes

-- how many scalars a value pointer points to
pub data Count : Type 0 where
  one : Count
  many : ℕ → Count
  deriving Discrete as Count-discrete

-- "Scalars and atomics are one shape (kind, width); vectors add size; matrices are columns, rows and width; an image's shape is
-- every OpTypeImage operand, its sampled type a scalar of width 4; samplers are one shape, as are acceleration structures and ray
-- queries." "Pointers share by base index and storage class, value pointers by size, kind, width and class; aggregate entries
-- never share." ".. a shared pointer shape (base, size, space, access) to a shared array shape (base, size)"
pub data Shape : Type 0 where
  scalar : Kind → Shape
  vector : ℕ → Kind → Shape
  matrix : ℕ → ℕ → ℕ → Shape
  pointer : ℕ → ℕ → Shape
  value_pointer : Count → Kind → ℕ → Shape
  image : Kind → ℕ → ℕ → ℕ → ℕ → ℕ → ℕ → Shape
  sampler : Shape
  acceleration_structure : Shape
  ray_query : Shape
  binding_array : ℕ → ℕ → Shape
  binding_pointer : ℕ → ℕ → ℕ → ℕ → Shape
  deriving Discrete as Shape-discrete

-- "A lookup key is an entry index or a shape"
pub data Key : Type 0 where
  entry : ℕ → Key
  shape : Shape → Key
  deriving Discrete as Key-discrete

-- keys are compared by structure
unfoldable pub same_key : Discrete Key
same_key = Key-discrete ℕ_discrete (Shape-discrete (Kind-discrete ℕ_discrete) ℕ_discrete (Count-discrete ℕ_discrete))

-- ---- the shape of an entry (`make_local`); "aggregate entries never share"

abbrev pub dim_of : ℕ → ℕ
dim_of d = pick (eqb d 0) Dim1D (pick (eqb d 1) Dim2D (pick (eqb d 2) Dim3D DimCube))

-- classes: 0 sampled (kind, multi), 1 depth (0, multi), 2 storage (format, access)
unfoldable pub image_of : ℕ → ℕ → ℕ → ℕ → ℕ → Shape
image_of d a c x y =
    pick (eqb c 0) (image (kind_of x 4) (dim_of d) 0 a y 1 ImageFormatUnknown)
    (pick (eqb c 1) (image (float 4) (dim_of d) 1 a y 1 ImageFormatUnknown)
    (image (format_at x).kind (dim_of d) 0 a 0 2 (format_at x).number))

abbrev pub count_of : ℕ → Count
count_of n = pick (eqb n 0) one (many n)

abbrev pub shape_of : TypeInner → Option Shape
shape_of (Scalar k w) = Some (scalar (kind_of k w))
shape_of (Vector n k w) = Some (vector n (kind_of k w))
shape_of (Matrix c r w) = Some (matrix c r w)
shape_of (Atomic k w) = Some (scalar (kind_of k w))
shape_of (Pointer b s a) = Some (pointer b (storage_class s))
shape_of (ValuePointer n k w s a) = Some (value_pointer (count_of n) (kind_of k w) (storage_class s))
shape_of (Array b n d) = None
shape_of (Struct n ms) = None
shape_of (Image d a c x y) = Some (image_of d a c x y)
shape_of (Sampler c) = Some sampler
shape_of AccelerationStructure = Some acceleration_structure
shape_of RayQuery = Some ray_query
shape_of (BindingArray b n) = None

-- ---- what a shape's instruction names

abbrev pub pointed_to : Count → Kind → Shape
pointed_to one k = scalar k
pointed_to (many n) k = vector n k

-- the type
abbrev pub inner : Shape → Option Key
inner (scalar k) = None
inner (vector n k) = Some (shape (scalar k))
inner (matrix c r w) = Some (shape (vector r (float w)))
inner (pointer b c) = Some (entry b)
inner (value_pointer n k c) = Some (shape (pointed_to n k))
inner (image k d p a m s f) = Some (shape (scalar k))
inner sampler = None
inner acceleration_structure = None
inner ray_query = None
inner (binding_array b n) = Some (entry b)
inner (binding_pointer b n s a) = Some (shape (binding_array b n))

-- the length
abbrev pub sized : Shape → Option ℕ
sized (scalar k) = None
sized (vector n k) = None
sized (matrix c r w) = None
sized (pointer b c) = None
sized (value_pointer n k c) = None
sized (image k d p a m s f) = None
sized sampler = None
sized acceleration_structure = None
sized ray_query = None
sized (binding_array b n) = Some n
sized (binding_pointer b n s a) = None

-- how deep a shape nests: above what its instruction names
abbrev pub rank_of : Shape → ℕ
rank_of (scalar k) = 0
rank_of (vector n k) = 1
rank_of (matrix c r w) = 2
rank_of (pointer b c) = 1
rank_of (value_pointer one k c) = 1
rank_of (value_pointer (many n) k c) = 2
rank_of (image k d p a m s f) = 1
rank_of sampler = 0
rank_of acceleration_structure = 0
rank_of ray_query = 0
rank_of (binding_array b n) = 1
rank_of (binding_pointer b n s a) = 2

abbrev pub rank : Key → ℕ
rank (entry h) = 0
rank (shape l) = rank_of l

-- ---- the instruction that declares a shape under an id: its opcode and its operands

abbrev pub opcode_of : Shape → ℕ
opcode_of (scalar (sint w)) = OpTypeInt
opcode_of (scalar (uint w)) = OpTypeInt
opcode_of (scalar (float w)) = OpTypeFloat
opcode_of (scalar bool) = OpTypeBool
opcode_of (vector n k) = OpTypeVector
opcode_of (matrix c r w) = OpTypeMatrix
opcode_of (pointer b c) = OpTypePointer
opcode_of (value_pointer n k c) = OpTypePointer
opcode_of (image k d p a m s f) = OpTypeImage
opcode_of sampler = OpTypeSampler
opcode_of acceleration_structure = OpTypeAccelerationStructureKHR
opcode_of ray_query = OpTypeRayQueryKHR
opcode_of (binding_array b n) = OpTypeArray
opcode_of (binding_pointer b n s a) = OpTypePointer

-- x is the id of the type that the shape names, y that of its length; widths are in bits, signedness is 1 for signed
abbrev pub operands_of : Shape → ℕ → ℕ → List ℕ
operands_of (scalar (sint w)) x y = 8 * w ∷ 1 ∷ []
operands_of (scalar (uint w)) x y = 8 * w ∷ 0 ∷ []
operands_of (scalar (float w)) x y = 8 * w ∷ []
operands_of (scalar bool) x y = []
operands_of (vector n k) x y = x ∷ n ∷ []
operands_of (matrix c r w) x y = x ∷ c ∷ []
operands_of (pointer b c) x y = c ∷ x ∷ []
operands_of (value_pointer n k c) x y = c ∷ x ∷ []
operands_of (image k d p a m s f) x y = x ∷ d ∷ p ∷ a ∷ m ∷ s ∷ f ∷ []
operands_of sampler x y = []
operands_of acceleration_structure x y = []
operands_of ray_query x y = []
operands_of (binding_array b n) x y = x ∷ y ∷ []
operands_of (binding_pointer b n s a) x y = storage_class s ∷ x ∷ []

abbrev pub type_of : Shape → ℕ → ℕ → ℕ → Instruction
type_of l id x y = type_op (opcode_of l) id (operands_of l x y)
