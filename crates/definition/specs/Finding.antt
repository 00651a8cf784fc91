-- "Finding a type's id may declare it, and declaring it may find another's." The fuel is the shape's nesting rank.
use Rattle.std.proofs.Math.Decide.{ℕ_discrete}
use Rattle.std.specs.Prelude.{ℕ, suc, zero, ◌&&◌, List, [], ◌∷◌, ◌++◌, eqb}
use Rattle.std.specs.Prelude.{Option, Some, None}
use Rattle.definition.specs.Choice.{pick, among}
use Rattle.definition.specs.Numbers.{CapabilityFloat16, CapabilityFloat64, CapabilityInt64, CapabilityInt16, CapabilityInt8, CapabilitySampled1D, CapabilityImage1D, CapabilitySampledCubeArray, CapabilityImageCubeArray, CapabilityStorageImageExtendedFormats, CapabilityRayQueryKHR, Dim1D, DimCube}
use Rattle.definition.specs.Numbers.{ImageFormatRg32f, ImageFormatRg16f, ImageFormatR11fG11fB10f, ImageFormatR16f, ImageFormatRgba16, ImageFormatRgb10A2, ImageFormatRg16, ImageFormatRg8, ImageFormatR16, ImageFormatR8, ImageFormatRgba16Snorm, ImageFormatRg16Snorm, ImageFormatRg8Snorm, ImageFormatR16Snorm, ImageFormatR8Snorm, ImageFormatRg32i, ImageFormatRg16i, ImageFormatRg8i, ImageFormatR16i, ImageFormatR8i, ImageFormatRgb10a2ui, ImageFormatRg32ui, ImageFormatRg16ui, ImageFormatRg8ui, ImageFormatR16ui, ImageFormatR8ui}
use Rattle.definition.specs.Literals.{Literal, f64, f32, u32, i32, boolean, same_literal, literal_words}
use Rattle.definition.specs.Instructions.{Instruction, constant_true, constant_false, constant_op, constant_composite, constant_null}
use Rattle.definition.specs.Shapes.{Kind, Shape, Key, same_key, inner, sized, rank, type_of}
use Rattle.definition.specs.Shapes.{sint, uint, float, bool, scalar, vector, matrix, pointer, value_pointer, image, sampler, acceleration_structure, ray_query, binding_array, binding_pointer, entry, shape}
use Rattle.definition.specs.State.{Constants, Composite, composite, same_composite, State, Got, got, take_id, enter, with_constants, declare_alone, declare_with, lookup}

-- ---- capabilities

-- "integers of 8, 16, 64 bits Int8, Int16, Int64 and 64-bit floats Float64"; paper 1: "The specification wants Float16 for such a
-- type", a Float of width 2; widths are in bytes
abbrev pub kind_capabilities : Kind → List ℕ
kind_capabilities (sint w) = pick (eqb w 1) (CapabilityInt8 ∷ []) (pick (eqb w 2) (CapabilityInt16 ∷ []) (pick (eqb w 8) (CapabilityInt64 ∷ []) []))
kind_capabilities (uint w) = pick (eqb w 1) (CapabilityInt8 ∷ []) (pick (eqb w 2) (CapabilityInt16 ∷ []) (pick (eqb w 8) (CapabilityInt64 ∷ []) []))
kind_capabilities (float w) = pick (eqb w 2) (CapabilityFloat16 ∷ []) (pick (eqb w 8) (CapabilityFloat64 ∷ []) [])
kind_capabilities bool = []

-- "formats as in `request_image_format_capabilities`"
abbrev pub extended_formats : List ℕ
extended_formats =
    ImageFormatRg32f ∷ ImageFormatRg16f ∷ ImageFormatR11fG11fB10f ∷ ImageFormatR16f ∷ ImageFormatRgba16 ∷ ImageFormatRgb10A2
    ∷ ImageFormatRg16 ∷ ImageFormatRg8 ∷ ImageFormatR16 ∷ ImageFormatR8 ∷ ImageFormatRgba16Snorm ∷ ImageFormatRg16Snorm
    ∷ ImageFormatRg8Snorm ∷ ImageFormatR16Snorm ∷ ImageFormatR8Snorm ∷ ImageFormatRg32i ∷ ImageFormatRg16i ∷ ImageFormatRg8i
    ∷ ImageFormatR16i ∷ ImageFormatR8i ∷ ImageFormatRgb10a2ui ∷ ImageFormatRg32ui ∷ ImageFormatRg16ui ∷ ImageFormatRg8ui
    ∷ ImageFormatR16ui ∷ ImageFormatR8ui ∷ []

unfoldable pub format_capabilities : ℕ → List ℕ
format_capabilities f = pick (among f extended_formats) (CapabilityStorageImageExtendedFormats ∷ []) []

-- "D1 Sampled1D or, for storage, Image1D; arrayed Cube SampledCubeArray or ImageCubeArray"; sampled 1 with a sampler, 2 for storage
unfoldable pub dim_capabilities : ℕ → ℕ → ℕ → List ℕ
dim_capabilities d arrayed sampled =
    pick (eqb d Dim1D) (pick (eqb sampled 1) (CapabilitySampled1D ∷ []) (CapabilityImage1D ∷ []))
    (pick (eqb d DimCube && eqb arrayed 1) (pick (eqb sampled 1) (CapabilitySampledCubeArray ∷ []) (CapabilityImageCubeArray ∷ []))
    [])

-- the capabilities that the rules give to a declared type, in order of use
abbrev pub capabilities_of : Shape → List ℕ
capabilities_of (scalar k) = kind_capabilities k
capabilities_of (vector n k) = []
capabilities_of (matrix c r w) = []
capabilities_of (pointer b c) = []
capabilities_of (value_pointer n k c) = []
capabilities_of (image k d p a m s f) = format_capabilities f ++ dim_capabilities d a s
capabilities_of sampler = []
capabilities_of acceleration_structure = CapabilityRayQueryKHR ∷ []
capabilities_of ray_query = CapabilityRayQueryKHR ∷ []
capabilities_of (binding_array b n) = []
capabilities_of (binding_pointer b n s a) = []

-- ---- literals

abbrev pub literal_kind : Literal → Kind
literal_kind (f64 n) = float 8
literal_kind (f32 n) = float 4
literal_kind (u32 n) = uint 4
literal_kind (i32 n) = sint 4
literal_kind (boolean n) = bool

abbrev pub literal_op : Literal → ℕ → ℕ → Instruction
literal_op (f64 n) t id = constant_op t id (literal_words (f64 n))
literal_op (f32 n) t id = constant_op t id (literal_words (f32 n))
literal_op (u32 n) t id = constant_op t id (literal_words (u32 n))
literal_op (i32 n) t id = constant_op t id (literal_words (i32 n))
literal_op (boolean n) t id = pick (eqb n 1) (constant_true t id) (constant_false t id)

abbrev pub enter_literal : Literal → ℕ → Constants → Constants
enter_literal l id c = record { literals = c.literals ++ (l, id) ∷ []; composites = c.composites; nulls = c.nulls; values = c.values }

abbrev pub enter_composite : Composite → ℕ → Constants → Constants
enter_composite v id c = record { literals = c.literals; composites = c.composites ++ (v, id) ∷ []; nulls = c.nulls; values = c.values }

abbrev pub enter_null : ℕ → ℕ → Constants → Constants
enter_null t id c = record { literals = c.literals; composites = c.composites; nulls = c.nulls ++ (t, id) ∷ []; values = c.values }

-- "A literal, a composite or a global likewise takes its id before its type is found."
abbrev pub new_value : (Key → State → Got) → Key → (ℕ → ℕ → Instruction) → (ℕ → Constants → Constants) → State → Got
new_value find k write note s =
    let id = suc s.last in
    let g = find k (take_id s) in
    let t = declare_alone (write g.id id) g.state in
    got id (with_constants (note id t.constants) t)

abbrev pub or_new_value : Option ℕ → (Key → State → Got) → Key → (ℕ → ℕ → Instruction) → (ℕ → Constants → Constants) → State → Got
or_new_value (Some id) find k write note s = got id s
or_new_value None find k write note s = new_value find k write note s

-- "Literals .. are equal by form and bits"
unfoldable pub literal_with : (Key → State → Got) → Literal → State → Got
literal_with find l s = or_new_value (lookup same_literal l s.constants.literals) find (shape (scalar (literal_kind l))) (literal_op l) (enter_literal l) s

-- ---- types: "An id is taken before the parts of a type are found."

abbrev pub inner_got : Option Key → (Key → State → Got) → State → Got
inner_got None find s = got 0 s
inner_got (Some k) find s = find k s

-- "array lengths are U32 literals"
abbrev pub length_got : Option ℕ → (Key → State → Got) → State → Got
length_got None find s = got 0 s
length_got (Some n) find s = literal_with find (u32 n) s

abbrev pub declare_shape : (Key → State → Got) → Shape → ℕ → State → Got
declare_shape find l id s =
    let g = inner_got (inner l) find s in
    let c = length_got (sized l) find g.state in
    got id (declare_with (capabilities_of l) (type_of l id g.id c.id) c.state)

abbrev pub new_key : (Key → State → Got) → Key → State → Got
new_key find (entry h) s = got 0 s
new_key find (shape l) s = declare_shape find l (suc s.last) (enter (shape l) (suc s.last) (take_id s))

abbrev pub or_new_key : Option ℕ → (Key → State → Got) → Key → State → Got
or_new_key (Some id) find k s = got id s
or_new_key None find k s = new_key find k s

-- the id of a key that nests n deep, declared if need be
unfoldable pub find_at : ℕ → Key → State → Got
find_at zero k s = or_new_key (lookup same_key k s.types) (λ k s. got 0 s) k s
find_at (suc n) k s = or_new_key (lookup same_key k s.types) (find_at n) k s

unfoldable pub find : Key → State → Got
find k = find_at (rank k) k

-- ---- literals, composites and nulls, found or declared

abbrev pub literal : Literal → State → Got
literal = literal_with find

unfoldable pub composite_of : Key → List ℕ → State → Got
composite_of k xs s = or_new_value (lookup same_composite (composite k xs) s.constants.composites) find k (λ t id. constant_composite t id xs) (enter_composite (composite k xs)) s

abbrev pub or_new_null : Option ℕ → ℕ → State → Got
or_new_null (Some id) t s = got id s
or_new_null None t s =
    let id = suc s.last in
    let u = declare_alone (constant_null t id) (take_id s) in
    got id (with_constants (enter_null t id u.constants) u)

unfoldable pub null_of : ℕ → State → Got
null_of t s = or_new_null (lookup ℕ_discrete t s.constants.nulls) t s
