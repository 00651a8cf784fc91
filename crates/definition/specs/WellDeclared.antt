-- Demand 3, of what a reader finds in the words ("Demand 3's words" and the mission's third demand), one field a clause.
use Rattle.std.specs.Prelude.{ℕ, ◌+◌, ◌<◌, ◌≤◌, min, Bool, true, false, ◌&&◌, ◌||◌, ◌↔◌, ◌≡◌, eqb, T, take, drop}
use mathlib.Core.List.{List, [], ◌∷◌, ◌++◌, Memᴰ}
use Rattle.std.specs.Prelude.{Option, Some, None}
use Rattle.std.specs.Prelude.{slice_get}
use Rattle.definition.specs.Choice.{pick, among, within, or_else}
use Rattle.definition.specs.Numbers.{OpName, OpMemberName, OpCapability, OpTypeVoid, OpTypeBool, OpTypeInt, OpTypeFloat, OpTypeVector, OpTypeMatrix, OpTypeImage, OpTypeSampler, OpTypeFunction, OpDecorate, OpMemberDecorate, OpTypeRayQueryKHR, OpTypeAccelerationStructureKHR}
use Rattle.definition.specs.Numbers.{CapabilityFloat16, CapabilityFloat64, CapabilityInt64, CapabilityInt16, CapabilityInt8, CapabilitySampled1D, CapabilityImage1D, CapabilitySampledCubeArray, CapabilityImageCubeArray, CapabilityStorageImageExtendedFormats, CapabilityRayQueryKHR}
use Rattle.definition.specs.Numbers.{Dim1D, DimCube, ImageFormatRg32f, ImageFormatR8Snorm, ImageFormatRg32i, ImageFormatR8i, ImageFormatRgb10a2ui, ImageFormatR8ui}
use Rattle.definition.specs.Instructions.{Instruction, version, generator}
use Rattle.definition.specs.Reader.{layout_of, ids_among, uses, Module, read_module}
use Rattle.definition.specs.ReadTypes.{operand, read_type, read_void, read_function}
use Rattle.definition.specs.Sheet.{TypeInner, TypeEntry, Function, start_of}
use Rattle.definition.specs.Sheet.{Scalar, Vector, Matrix, Atomic, Pointer, ValuePointer, Array, Struct, Image, Sampler, AccelerationStructure, RayQuery, BindingArray}
use Rattle.definition.specs.Shapes.{Shape, shape_of, entry}
use Rattle.definition.specs.State.{function as function_key, void, same_composite, State, same, occurrences, lookup, id_of, entry_id, entry_ids, bound_of, instructions, module_words}
use Rattle.definition.specs.Tests.{fit}
use Rattle.definition.specs.Operations.{Progress, judged, Written, declare}

-- ---- "an instruction with a result id declares it"

abbrev pub once : Option ℕ → ℕ → ℕ
once None i = 0
once (Some r) i = same i r

-- how often an id is declared
unfoldable pub times : ℕ → List Instruction → ℕ
times i [] = 0
times i (x ∷ xs) = once x.result i + times i xs

abbrev pub declares_id : Option ℕ → Bool
declares_id None = false
declares_id (Some r) = true

-- ---- ".. and uses its other id operands, result type included": every declaration uses only ids declared above it

abbrev pub UsesDeclared : List Instruction → Instruction → Type 0
UsesDeclared above i = T (declares_id i.result) → (u : ℕ) → Memᴰ u (uses i) → 1 ≤ times u above

abbrev pub Above : List Instruction → List Instruction → Type 0
Above above [] = Unit
Above above (i ∷ is) = UsesDeclared above i × Above (above ++ i ∷ []) is

-- ---- names and decorations: what they stand on

abbrev pub marks : ℕ → Bool
marks o = among o (OpName ∷ OpMemberName ∷ OpDecorate ∷ OpMemberDecorate ∷ [])

unfoldable pub target_of : Instruction → List ℕ
target_of i = pick (marks i.opcode) (ids_among (layout_of i.opcode).operands i.operands) []

unfoldable pub targets : List Instruction → List ℕ
targets [] = []
targets (i ∷ is) = target_of i ++ targets is

-- ---- capabilities: listed, and "needed exactly if these rules give it to a declared type"

unfoldable pub listed_by : Instruction → List ℕ
listed_by i = pick (eqb i.opcode OpCapability) i.operands []

unfoldable pub listed_in : List Instruction → List ℕ
listed_in [] = []
listed_in (i ∷ is) = listed_by i ++ listed_in is

-- "integers of 8, 16, 64 bits Int8, Int16, Int64 and 64-bit floats Float64"; the operand Width is in bits
abbrev pub int_needs : ℕ → List ℕ
int_needs width = pick (eqb width 8) (CapabilityInt8 ∷ []) (pick (eqb width 16) (CapabilityInt16 ∷ []) (pick (eqb width 64) (CapabilityInt64 ∷ []) []))

-- paper 1: "The capability clause of the mission's last demand counts Float16 too."
abbrev pub float_needs : ℕ → List ℕ
float_needs width = pick (eqb width 16) (CapabilityFloat16 ∷ []) (pick (eqb width 64) (CapabilityFloat64 ∷ []) [])

-- "formats as in `request_image_format_capabilities`", which are, in the Specification's order of them, Rg32f (6) to R8Snorm (20),
-- Rg32i (25) to R8i (29) and Rgb10a2ui (34) to R8ui (39)
abbrev pub extended_format : ℕ → Bool
extended_format f = within ImageFormatRg32f ImageFormatR8Snorm f || within ImageFormatRg32i ImageFormatR8i f || within ImageFormatRgb10a2ui ImageFormatR8ui f

abbrev pub format_needs : ℕ → List ℕ
format_needs image_format = pick (extended_format image_format) (CapabilityStorageImageExtendedFormats ∷ []) []

-- "D1 Sampled1D or, for storage, Image1D; arrayed Cube SampledCubeArray or ImageCubeArray"; the operand Sampled is 2 for storage
abbrev pub dim_needs : ℕ → ℕ → ℕ → List ℕ
dim_needs dim arrayed sampled =
    pick (eqb sampled 2)
    (pick (eqb dim Dim1D) (CapabilityImage1D ∷ []) (pick (eqb dim DimCube && eqb arrayed 1) (CapabilityImageCubeArray ∷ []) []))
    (pick (eqb dim Dim1D) (CapabilitySampled1D ∷ []) (pick (eqb dim DimCube && eqb arrayed 1) (CapabilitySampledCubeArray ∷ []) []))

-- the operands of OpTypeImage: Sampled Type, Dim, Depth, Arrayed, MS, Sampled, Image Format
abbrev pub image_needs : Instruction → List ℕ
image_needs i =
    let dim = operand i 1 in
    let arrayed = operand i 3 in
    let sampled = operand i 5 in
    let image_format = operand i 6 in
    format_needs image_format ++ dim_needs dim arrayed sampled

unfoldable pub needs : Instruction → List ℕ
needs i =
    pick (eqb i.opcode OpTypeInt) (int_needs (operand i 0))
    (pick (eqb i.opcode OpTypeFloat) (float_needs (operand i 0))
    (pick (eqb i.opcode OpTypeImage) (image_needs i)
    (pick (among i.opcode (OpTypeAccelerationStructureKHR ∷ OpTypeRayQueryKHR ∷ [])) (CapabilityRayQueryKHR ∷ []) [])))

-- how often a capability is needed
unfoldable pub needed : ℕ → List Instruction → ℕ
needed c [] = 0
needed c (i ∷ is) = occurrences c (needs i) + needed c is

-- ---- "no two type declarations, aggregates and pointers apart, that are equal in opcode and in all operands but their own id"

-- types but aggregates and pointers
abbrev pub plain_type : ℕ → Bool
plain_type o = among o (OpTypeVoid ∷ OpTypeFunction ∷ OpTypeBool ∷ OpTypeInt ∷ OpTypeFloat ∷ OpTypeVector ∷ OpTypeMatrix ∷ OpTypeImage ∷ OpTypeSampler ∷ OpTypeAccelerationStructureKHR ∷ OpTypeRayQueryKHR ∷ [])

pub record EqualTypes (i j : Instruction) : Type 0 where
  pub plain : T (plain_type i.opcode)
  pub opcode : i.opcode ≡ j.opcode
  pub operands : i.operands ≡ j.operands

abbrev pub NoEqualTypes : List Instruction → Type 0
NoEqualTypes [] = Unit
NoEqualTypes (i ∷ is) = ((j : Instruction) → Memᴰ j is → EqualTypes i j → ⊥) × NoEqualTypes is

-- ---- "no id carries the same decoration twice, and no member either" (paper 5): "the same" by its number

-- the first operands of an instruction
abbrev pub begins : List ℕ → List ℕ → Bool
begins [] ys = true
begins (x ∷ xs) [] = false
begins (x ∷ xs) (y ∷ ys) = eqb x y && begins xs ys

-- how many instructions of an opcode have first operands
abbrev pub carries : ℕ → List ℕ → Instruction → ℕ
carries o xs i = pick (eqb i.opcode o && begins xs i.operands) 1 0

unfoldable pub carried : ℕ → List ℕ → List Instruction → ℕ
carried o xs [] = 0
carried o xs (i ∷ is) = carries o xs i + carried o xs is

-- how often an id carries a decoration: OpDecorate's operands are Target, Decoration and what the decoration takes
abbrev pub times_decorated : ℕ → ℕ → List Instruction → ℕ
times_decorated id d is = carried OpDecorate (id ∷ d ∷ []) is

-- .. and a member: OpMemberDecorate's are Structure Type, Member, Decoration and the same
abbrev pub times_member_decorated : ℕ → ℕ → ℕ → List Instruction → ℕ
times_member_decorated id m d is = carried OpMemberDecorate (id ∷ m ∷ d ∷ []) is

-- ---- what a reader finds declared

pub record WellDeclared (start bound : ℕ) (is : List Instruction) : Type 0 where
  -- "declared exactly the ids above the sheet's start and below the bound, each once"
  pub each_once : (i : ℕ) → start < i → i < bound → times i is ≡ 1
  pub no_other : (i : ℕ) → 1 ≤ times i is → (start < i) × (i < bound)
  -- "every declaration using only ids declared above it"
  pub above : Above [] is
  -- "every name and decoration on a declared id"
  pub on_declared : (t : ℕ) → Memᴰ t (targets is) → times t is ≡ 1
  -- "listed exactly the capabilities needed by document 01's capability rules, each once"
  pub capabilities : (c : ℕ) → occurrences c (listed_in is) ≡ min 1 (needed c is)
  -- "no two type declarations .. equal"
  pub no_equal_types : NoEqualTypes is
  -- paper 5: "no id carries the same decoration twice, and no member either"
  pub no_repeats : (i d : ℕ) → times_decorated i d is ≤ 1
  pub no_member_repeats : (i m d : ℕ) → times_member_decorated i m d is ≤ 1

-- ---- entries of "such types"

-- "Aggregates are OpTypeArray, OpTypeRuntimeArray and OpTypeStruct (tags 22, 23, 28), pointers OpTypePointer (20, 21).": the others
abbrev pub plain_entry : TypeInner → Bool
plain_entry (Scalar k w) = true
plain_entry (Vector n k w) = true
plain_entry (Matrix c r w) = true
plain_entry (Atomic k w) = true
plain_entry (Pointer b s a) = false
plain_entry (ValuePointer n k w s a) = false
plain_entry (Array b n d) = false
plain_entry (Struct n ms) = false
plain_entry (Image d a c x y) = true
plain_entry (Sampler c) = true
plain_entry AccelerationStructure = true
plain_entry RayQuery = true
plain_entry (BindingArray b n) = false

-- the entry with an index is of such a type, and of a shape
abbrev pub HasShape : List TypeEntry → ℕ → Shape → Type 0
HasShape ts h l = (t : TypeEntry) × (slice_get ts h ≡ Some t) × T (plain_entry t.inner) × (shape_of t.inner ≡ Some l)

-- "Two entries of such types get one id exactly when their shapes are equal, an entry's id being the one document 01's rules give
-- it, and the words declare its shape under that id."
pub record EntriesDeclared (ts : List TypeEntry) (s : State) (is : List Instruction) : Type 0 where
  pub shared : (h g : ℕ) (l m : Shape) (i j : ℕ) → HasShape ts h l → HasShape ts g m → id_of s (entry h) ≡ Some i → id_of s (entry g) ≡ Some j → (i ≡ j) ↔ (l ≡ m)
  pub declared : (h : ℕ) (l : Shape) → HasShape ts h l → (i : ℕ) × (id_of s (entry h) ≡ Some i) × (read_type is i ≡ Some l)

-- ---- function types (paper 2)

-- the ids that a record names, its return type's or void's first, and the id that it gets
abbrev pub return_id : State → Option ℕ → ℕ
return_id s None = or_else 0 (lookup same_composite void s.constants.composites)
return_id s (Some t) = entry_id s t

abbrev pub signature_of : State → Function → List ℕ
signature_of s f = return_id s f.result ∷ entry_ids s f.parameters

abbrev pub function_id : State → Function → Option ℕ
function_id s f = lookup same_composite (function_key (signature_of s f)) s.constants.composites

-- some record returns void
abbrev pub VoidReturned : List Function → Type 0
VoidReturned fs = (f : Function) × Memᴰ f fs × (f.result ≡ None)

-- "The rule on shared ids covers void and these types too."
pub record FunctionsDeclared (fs : List Function) (s : State) (is : List Instruction) : Type 0 where
  -- "Two records with equal return id and equal parameter ids share one id", and no other two
  pub shared : (f g : Function) (i j : ℕ) → Memᴰ f fs → Memᴰ g fs → function_id s f ≡ Some i → function_id s g ≡ Some j → (i ≡ j) ↔ (signature_of s f ≡ signature_of s g)
  -- "A record with tag 48 holds a return type .. and that many parameter types": the words declare them, in order, under its id
  pub declared : (f : Function) → Memᴰ f fs → (i : ℕ) × (function_id s f ≡ Some i) × (read_function is i ≡ Some (signature_of s f))
  -- "65,535 for void": what such a record has for its return type is OpTypeVoid
  pub returns_void : (f : Function) → Memᴰ f fs → f.result ≡ None → read_void is (return_id s f.result) ≡ true
  -- "void is declared by the first record that returns it": by none where no record does; once at most, as `no_equal_types` says
  pub void_returned : (i : ℕ) → read_void is i ≡ true → VoidReturned fs

-- ---- demand 3, whole: "Whatever sheet Declare accepts, whoever reads its words by that specification finds .."

-- the header and the four sections, in order
abbrev pub written_of : State → Module
written_of s = record { version = version; generator = generator; bound = bound_of s; instructions = instructions s }

-- what is found in words, of a sheet that came to a progress
pub record Found (s : List ℕ) (p : Progress) (ws : List ℕ) : Type 0 where
  pub found : Module
  pub reads : read_module ws ≡ Some found
  pub written : found ≡ written_of p.state
  pub well : WellDeclared (start_of s) found.bound found.instructions
  pub entries : EntriesDeclared p.seen.types p.state found.instructions
  pub functions : FunctionsDeclared p.seen.functions p.state found.instructions

-- bytes are bytes
abbrev pub IsBytes : List ℕ → Type 0
IsBytes s = (b : ℕ) → Memᴰ b s → b < 256

-- of every sheet that Check fits
abbrev pub Demand3 : Type 0
Demand3 = (s : List ℕ) → IsBytes s → (p : Progress) → judged s ≡ fit p → Found s p (module_words p.state)

-- of the words that Declare leaves in a buffer: as many as it says, with the bound that it says, and the rest of the buffer unchanged
pub record Accepted (s b : List ℕ) (n bound : ℕ) : Type 0 where
  pub progress : Progress
  pub fits : judged s ≡ fit progress
  pub found : Found s progress (take n (declare s b).buffer)
  pub bound_is : bound ≡ found.found.bound
  pub rest : drop n (declare s b).buffer ≡ drop n b

abbrev pub Demand3OfDeclare : Type 0
Demand3OfDeclare = (s b : List ℕ) → IsBytes s → (n bound : ℕ) → (declare s b).answer ≡ Written n bound → Accepted s b n bound
