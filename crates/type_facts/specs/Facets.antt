-- The facet of a type of the definition and what each question finds in a facet; the program's options as the definition's.
use Rattle.std.specs.Prelude.{ℕ, Bool, true, false, not, List, eqb}
use Rattle.std.specs.Prelude.{Option, Some, None}
use Rattle.definition.specs.Choice.{pick}
use Rattle.definition.specs.Rules.{column_stride, has_stride, ends_dynamic}
use Rattle.definition.specs.Sheet as Defined
use Rattle.kinds.specs.declared.AddressSpace.{AddressSpace}
use Rattle.kinds.specs.declared.AddressSpace.TheVariants.{Function, Private, WorkGroup, Uniform, Storage, Handle, PushConstant}
use Rattle.type_facts.specs.declared.facets.Facet.{Facet}
use Rattle.type_facts.specs.declared.facets.Facet.TheVariants.{Matrix, Array, Struct, StorageImage, Pointer, BindingArray, Other}

-- ---- facets

-- of an image, by its class: 2 is storage
abbrev pub image_facet : ℕ → ℕ → Facet
image_facet class access = pick (eqb class 2) (StorageImage access) Other

-- of a type, by its fields
abbrev pub facet_of : Defined.TypeInner → Facet
facet_of (Defined.Scalar k w) = Other
facet_of (Defined.Vector n k w) = Other
facet_of (Defined.Matrix c r w) = Matrix r w
facet_of (Defined.Atomic k w) = Other
facet_of (Defined.Pointer b s a) = Pointer
facet_of (Defined.ValuePointer n k w s a) = Pointer
facet_of (Defined.Array b n d) = Array b (eqb n 0)
facet_of (Defined.Struct n ms) = Struct
facet_of (Defined.Image d a c x y) = image_facet c y
facet_of (Defined.Sampler c) = Other
facet_of Defined.AccelerationStructure = Other
facet_of Defined.RayQuery = Other
facet_of (Defined.BindingArray b n) = BindingArray b

-- ---- what a question finds in a facet

-- whether it is a dynamic array
abbrev pub dynamic_in : Facet → Bool
dynamic_in (Matrix r w) = false
dynamic_in (Array b d) = d
dynamic_in Struct = false
dynamic_in (StorageImage a) = false
dynamic_in Pointer = false
dynamic_in (BindingArray b) = false
dynamic_in Other = false

-- the column stride of so many rows of a width
abbrev pub stride_of : ℕ → ℕ → Option ℕ
stride_of rows width = pick (has_stride rows width) (Some (column_stride rows width)) None

-- the column stride of a matrix
abbrev pub stride_in : Facet → Option ℕ
stride_in (Matrix r w) = stride_of r w
stride_in (Array b d) = None
stride_in Struct = None
stride_in (StorageImage a) = None
stride_in Pointer = None
stride_in (BindingArray b) = None
stride_in Other = None

-- the access of a storage image
abbrev pub access_in : Facet → Option ℕ
access_in (Matrix r w) = None
access_in (Array b d) = None
access_in Struct = None
access_in (StorageImage a) = Some a
access_in Pointer = None
access_in (BindingArray b) = None
access_in Other = None

-- the base of a BindingArray
abbrev pub base_in : Facet → Option ℕ
base_in (Matrix r w) = None
base_in (Array b d) = None
base_in Struct = None
base_in (StorageImage a) = None
base_in Pointer = None
base_in (BindingArray b) = Some b
base_in Other = None

-- the base of an Array
abbrev pub element_in : Facet → Option ℕ
element_in (Matrix r w) = None
element_in (Array b d) = Some b
element_in Struct = None
element_in (StorageImage a) = None
element_in Pointer = None
element_in (BindingArray b) = None
element_in Other = None

-- whether it is a Pointer or a ValuePointer
abbrev pub pointer_in : Facet → Bool
pointer_in (Matrix r w) = false
pointer_in (Array b d) = false
pointer_in Struct = false
pointer_in (StorageImage a) = false
pointer_in Pointer = true
pointer_in (BindingArray b) = false
pointer_in Other = false

-- whether it is wrapped, a struct by its members
abbrev pub wraps_in : List Defined.TypeEntry → Facet → List Defined.Member → Bool
wraps_in ts (Matrix r w) ms = true
wraps_in ts (Array b d) ms = true
wraps_in ts Struct ms = not (ends_dynamic ts ms)
wraps_in ts (StorageImage a) ms = true
wraps_in ts Pointer ms = true
wraps_in ts (BindingArray b) ms = false
wraps_in ts Other ms = true

-- whether a global of a space has to be a struct
abbrev pub wraps_space : AddressSpace → Bool
wraps_space Function = false
wraps_space Private = false
wraps_space WorkGroup = false
wraps_space Uniform = true
wraps_space (Storage a) = true
wraps_space Handle = false
wraps_space PushConstant = true
