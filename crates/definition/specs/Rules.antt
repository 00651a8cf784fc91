-- How the entries of a sheet change the state ("Rules"): types, function types, constants and globals, in the sheet's order.
use Rattle.std.specs.Prelude.{ℕ, suc, zero, ◌*◌, ◌/◌, ◌%◌, Bool, true, false, ◌&&◌, ◌||◌, not, List, [], ◌∷◌, ◌++◌, eqb, length, get_or, replicate}
use Rattle.std.specs.Prelude.{Option, Some, None}
use Rattle.definition.specs.Choice.{pick, or_else, among}
use Rattle.definition.specs.Bytes.{Name}
use Rattle.definition.specs.Numbers.{OpDecorate, DecorationBlock, DecorationColMajor, DecorationArrayStride, DecorationMatrixStride, DecorationNonWritable, DecorationNonReadable, DecorationBinding, DecorationDescriptorSet, DecorationOffset}
use Rattle.definition.specs.Literals.{u32}
use Rattle.definition.specs.Instructions.{Instruction, name, member_name, decorate, member_decorate, type_array, type_runtime_array, type_struct, type_pointer, type_void, type_function, variable}
use Rattle.definition.specs.Sheet.{Options, Member, TypeInner, TypeEntry, Function, Expression, Global, Remap, Entry, private_space, work_group_space, uniform_space, storage_space, push_constant_space}
use Rattle.definition.specs.Sheet.{Scalar, Vector, Matrix, Atomic, Pointer, ValuePointer, Array, Struct, Image, Sampler, AccelerationStructure, RayQuery, BindingArray}
use Rattle.definition.specs.Sheet.{Value, Alias, ZeroValue, Compose, Splat, available, remap, type, function, constant, global}
use Rattle.definition.specs.Tests.{Seen, size_fits, float_width}
use Rattle.definition.specs.Shapes.{Kind, Key, shape_of, storage_class, kind_of}
use Rattle.definition.specs.Shapes.{Shape, bool, scalar, vector, pointer, binding_pointer, entry, shape}
use Rattle.definition.specs.State.{Composite, function as function_key, void, same_composite, Valued, State, Got, got, take_id, enter, with_constants, annotate, label, declare_alone, lookup, id_of, entry_id, entry_ids}
use Rattle.definition.specs.Finding.{literal_kind, find, literal, composite_of, null_of, enter_composite}

-- ---- the types read so far

abbrev pub no_entry : TypeEntry
no_entry = record { source = record { tag = 0; body = [] }; name = None; inner = AccelerationStructure }

-- the fields of the type with an index
abbrev pub inner_at : List TypeEntry → ℕ → TypeInner
inner_at ts t = (get_or ts t no_entry).inner

-- "(2 for two rows, else 4) times width": a column's alignment in components, and from one column to the next in bytes
abbrev pub column_alignment : ℕ → ℕ
column_alignment rows = pick (eqb rows 2) 2 4

abbrev pub column_stride : ℕ → ℕ → ℕ
column_stride rows width = column_alignment rows * width

-- "three row counts by three widths" (paper 4), which are those that test 10 lets through
abbrev pub has_stride : ℕ → ℕ → Bool
has_stride rows width = size_fits rows && float_width width

-- the column stride of a matrix; one that is not among the nine has none, and is in no sheet that Check fits
abbrev pub matrix_stride : TypeInner → Option ℕ
matrix_stride (Scalar k w) = None
matrix_stride (Vector n k w) = None
matrix_stride (Matrix c r w) = pick (has_stride r w) (Some (column_stride r w)) None
matrix_stride (Atomic k w) = None
matrix_stride (Pointer b s a) = None
matrix_stride (ValuePointer n k w s a) = None
matrix_stride (Array b n d) = None
matrix_stride (Struct n ms) = None
matrix_stride (Image d a c x y) = None
matrix_stride (Sampler c) = None
matrix_stride AccelerationStructure = None
matrix_stride RayQuery = None
matrix_stride (BindingArray b n) = None

-- the fields of what an array is made of, or of the type itself where it is no array
abbrev pub element_of : List TypeEntry → TypeInner → TypeInner
element_of ts (Scalar k w) = Scalar k w
element_of ts (Vector n k w) = Vector n k w
element_of ts (Matrix c r w) = Matrix c r w
element_of ts (Atomic k w) = Atomic k w
element_of ts (Pointer b s a) = Pointer b s a
element_of ts (ValuePointer n k w s a) = ValuePointer n k w s a
element_of ts (Array b n d) = inner_at ts b
element_of ts (Struct n ms) = Struct n ms
element_of ts (Image d a c x y) = Image d a c x y
element_of ts (Sampler c) = Sampler c
element_of ts AccelerationStructure = AccelerationStructure
element_of ts RayQuery = RayQuery
element_of ts (BindingArray b n) = BindingArray b n

-- "a dynamic array": tag 22 with size 0
abbrev pub is_dynamic : TypeInner → Bool
is_dynamic (Scalar k w) = false
is_dynamic (Vector n k w) = false
is_dynamic (Matrix c r w) = false
is_dynamic (Atomic k w) = false
is_dynamic (Pointer b s a) = false
is_dynamic (ValuePointer n k w s a) = false
is_dynamic (Array b n d) = eqb n 0
is_dynamic (Struct n ms) = false
is_dynamic (Image d a c x y) = false
is_dynamic (Sampler c) = false
is_dynamic AccelerationStructure = false
is_dynamic RayQuery = false
is_dynamic (BindingArray b n) = false

-- ---- names: "Under flag bit 0"

abbrev pub label_if : Bool → (List ℕ → Instruction) → Name → State → State
label_if false write n s = s
label_if true write None s = s
label_if true write (Some bs) s = label (write bs) s

-- ---- members

-- "a matrix, or an array directly of matrices, also ColMajor and MatrixStride"
abbrev pub stride_member : Option ℕ → ℕ → ℕ → State → State
stride_member None id i s = s
stride_member (Some stride) id i s = annotate (member_decorate id i DecorationMatrixStride (stride ∷ [])) (annotate (member_decorate id i DecorationColMajor []) s)

-- "A struct member has Offset; .." and "a member [is named] after its Offset"
abbrev pub decorate_member : Bool → List TypeEntry → ℕ → ℕ → Member → State → State
decorate_member debug ts id i m s =
    stride_member (matrix_stride (element_of ts (inner_at ts m.type))) id i
    (label_if debug (member_name id i) m.name
    (annotate (member_decorate id i DecorationOffset (m.offset ∷ [])) s))

-- ids, and the state in which they are declared
pub record GotAll : Type 0 where
  pub ids : List ℕ
  pub state : State

unfoldable pub declare_members : Bool → List TypeEntry → ℕ → ℕ → List Member → State → GotAll
declare_members debug ts id i [] s = record { ids = []; state = s }
declare_members debug ts id i (m ∷ ms) s =
    let g = find (entry m.type) (decorate_member debug ts id i m s) in
    let r = declare_members debug ts id (suc i) ms g.state in
    record { ids = g.id ∷ r.ids; state = r.state }

unfoldable pub any_dynamic : List TypeEntry → List Member → Bool
any_dynamic ts [] = false
any_dynamic ts (m ∷ ms) = is_dynamic (inner_at ts m.type) || any_dynamic ts ms

abbrev pub annotate_if : Bool → Instruction → State → State
annotate_if false i s = s
annotate_if true i s = annotate i s

-- ---- Block

abbrev pub block : ℕ → Instruction
block id = decorate id DecorationBlock []

-- the id on which an instruction puts Block: OpDecorate's operands are a target and a decoration
abbrev pub block_target : List ℕ → List ℕ
block_target [] = []
block_target (t ∷ []) = []
block_target (t ∷ (d ∷ xs)) = pick (eqb d DecorationBlock) (t ∷ []) []

abbrev pub blocked_by : Instruction → List ℕ
blocked_by i = pick (eqb i.opcode OpDecorate) (block_target i.operands) []

-- the ids that carry Block, in order of writing
unfoldable pub blocked : List Instruction → List ℕ
blocked [] = []
blocked (i ∷ is) = blocked_by i ++ blocked is

-- paper 5: "The first writing stays and later ones are dropped."; what is dropped is Block alone, as nothing else is written twice on
-- an id or a member (`no_repeats`, `no_member_repeats` of demand 3)
abbrev pub block_once : ℕ → State → State
block_once id s = pick (among id (blocked s.annotations)) s (annotate (block id) s)

-- ---- aggregates: "aggregate entries never share"; id is the one taken for the entry

-- the base is found; a size is a literal, found after it; size 0 is dynamic
abbrev pub declare_array : ℕ → ℕ → Got → State
declare_array zero id base = declare_alone (type_runtime_array id base.id) base.state
declare_array (suc n) id base = let c = literal (u32 (suc n)) base.state in declare_alone (type_array id base.id c.id) c.state

-- "A struct with a dynamic array among its members has Block after them."
abbrev pub declare_struct : Bool → List TypeEntry → ℕ → List Member → State → State
declare_struct debug ts id ms s =
    let r = declare_members debug ts id 0 ms s in
    declare_alone (type_struct id r.ids) (annotate_if (any_dynamic ts ms) (block id) r.state)

-- "An Array entry has ArrayStride with its stride, written when its id is taken; a BindingArray has none."
abbrev pub declare_aggregate : Bool → List TypeEntry → TypeInner → ℕ → State → State
declare_aggregate debug ts (Scalar k w) id s = s
declare_aggregate debug ts (Vector n k w) id s = s
declare_aggregate debug ts (Matrix c r w) id s = s
declare_aggregate debug ts (Atomic k w) id s = s
declare_aggregate debug ts (Pointer b p a) id s = s
declare_aggregate debug ts (ValuePointer n k w p a) id s = s
declare_aggregate debug ts (Array b n d) id s = declare_array n id (find (entry b) (annotate (decorate id DecorationArrayStride (d ∷ [])) s))
declare_aggregate debug ts (Struct n ms) id s = declare_struct debug ts id ms s
declare_aggregate debug ts (Image d a c x y) id s = s
declare_aggregate debug ts (Sampler c) id s = s
declare_aggregate debug ts AccelerationStructure id s = s
declare_aggregate debug ts RayQuery id s = s
declare_aggregate debug ts (BindingArray b n) id s = declare_array n id (find (entry b) s)

-- ---- types: a shape is found; an aggregate takes its id first. The entry's own key comes last, then "a type is named after
-- its declaration".

abbrev pub declare_inner : Bool → List TypeEntry → Option Shape → TypeInner → State → Got
declare_inner debug ts (Some l) i s = find (shape l) s
declare_inner debug ts None i s = got (suc s.last) (declare_aggregate debug ts i (suc s.last) (take_id s))

unfoldable pub declare_type : Bool → List TypeEntry → TypeEntry → State → State
declare_type debug ts t s =
    let g = declare_inner debug ts (shape_of t.inner) t.inner s in
    label_if debug (name g.id) t.name (enter (entry (length ts)) g.id g.state)

-- ---- function types (paper 2): "The reference is `get_function_type`"

-- the id of a type that is shared by the ids that it names, which is declared if it has none yet
abbrev pub or_new_type : Option ℕ → Composite → (ℕ → Instruction) → State → Got
or_new_type (Some id) c write s = got id s
or_new_type None c write s =
    let id = suc s.last in
    let u = declare_alone (write id) (take_id s) in
    got id (with_constants (enter_composite c id u.constants) u)

unfoldable pub shared_type : Composite → (ℕ → Instruction) → State → Got
shared_type c write s = or_new_type (lookup same_composite c s.constants.composites) c write s

-- "void is declared by the first record that returns it, its id taken before that record's"
abbrev pub result_of : Option ℕ → State → Got
result_of None s = shared_type void type_void s
result_of (Some t) s = got (entry_id s t) s

-- "Two records with equal return id and equal parameter ids share one id."
unfoldable pub declare_function : Function → State → State
declare_function f s =
    let r = result_of f.result s in
    let ids = r.id ∷ entry_ids r.state f.parameters in
    (shared_type (function_key ids) (λ i. type_function i ids) r.state).state

-- ---- constants

abbrev pub no_value : Valued
no_value = record { id = 0; type = 0; kind = None }

abbrev pub value_at : State → ℕ → Valued
value_at s c = get_or s.constants.values c no_value

unfoldable pub ids_of : State → List ℕ → List ℕ
ids_of s [] = []
ids_of s (c ∷ cs) = (value_at s c).id ∷ ids_of s cs

-- the kind of a type of tag 16
abbrev pub kind_of_scalar : TypeInner → Option Kind
kind_of_scalar (Scalar k w) = Some (kind_of k w)
kind_of_scalar (Vector n k w) = None
kind_of_scalar (Matrix c r w) = None
kind_of_scalar (Atomic k w) = None
kind_of_scalar (Pointer b s a) = None
kind_of_scalar (ValuePointer n k w s a) = None
kind_of_scalar (Array b n d) = None
kind_of_scalar (Struct n ms) = None
kind_of_scalar (Image d a c x y) = None
kind_of_scalar (Sampler c) = None
kind_of_scalar AccelerationStructure = None
kind_of_scalar RayQuery = None
kind_of_scalar (BindingArray b n) = None

-- a constant that was found or declared, of a type with a key
pub record GotValue : Type 0 where
  pub value : Valued
  pub state : State

abbrev pub got_value : Key → Option Kind → Got → GotValue
got_value k kind g = record { value = record { id = g.id; type = or_else 0 (id_of g.state k); kind = kind }; state = g.state }

-- "An Alias is `Expression::Constant`; a Splat's type is given as a value, never a handle."
unfoldable pub constant_of : List TypeEntry → Expression → State → GotValue
constant_of ts (Value l) s = got_value (shape (scalar (literal_kind l))) (Some (literal_kind l)) (literal l s)
constant_of ts (Alias c) s = record { value = value_at s c; state = s }
constant_of ts (ZeroValue t) s = got_value (entry t) (kind_of_scalar (inner_at ts t)) (let g = find (entry t) s in null_of g.id g.state)
constant_of ts (Compose t cs) s = got_value (entry t) None (composite_of (entry t) (ids_of s cs) s)
constant_of ts (Splat n c) s =
    let k = shape (vector n (or_else bool (value_at s c).kind)) in
    got_value k None (composite_of k (replicate n (value_at s c).id) s)

abbrev pub enter_value : Valued → State → State
enter_value v s = with_constants (record { literals = s.constants.literals; composites = s.constants.composites; nulls = s.constants.nulls; values = s.constants.values ++ v ∷ [] }) s

unfoldable pub declare_constant : List TypeEntry → Expression → State → State
declare_constant ts e s = let g = constant_of ts e s in enter_value g.value g.state

-- ---- globals

-- "A global without load has NonReadable and without store NonWritable (access of Storage space, else of its storage image)"
abbrev pub image_access : TypeInner → Option ℕ
image_access (Scalar k w) = None
image_access (Vector n k w) = None
image_access (Matrix c r w) = None
image_access (Atomic k w) = None
image_access (Pointer b s a) = None
image_access (ValuePointer n k w s a) = None
image_access (Array b n d) = None
image_access (Struct n ms) = None
image_access (Image d a c x y) = pick (eqb c 2) (Some y) None
image_access (Sampler c) = None
image_access AccelerationStructure = None
image_access RayQuery = None
image_access (BindingArray b n) = None

abbrev pub access_of : List TypeEntry → Global → Option ℕ
access_of ts g = pick (eqb g.space storage_space) (Some g.access) (image_access (inner_at ts g.type))

-- bit 0 load, bit 1 store
abbrev pub decorate_access : Option ℕ → ℕ → State → State
decorate_access None id s = s
decorate_access (Some a) id s =
    annotate_if (eqb (a / 2 % 2) 0) (decorate id DecorationNonWritable [])
    (annotate_if (eqb (a % 2) 0) (decorate id DecorationNonReadable []) s)

-- "then if bound DescriptorSet and Binding"
abbrev pub decorate_binding : Bool → Global → ℕ → State → State
decorate_binding false g id s = s
decorate_binding true g id s = annotate (decorate id DecorationBinding (g.binding ∷ [])) (annotate (decorate id DecorationDescriptorSet (g.group ∷ [])) s)

abbrev pub is_bound : Global → Bool
is_bound g = eqb g.bound 1

-- the last member of a struct is a dynamic array, or there is none
unfoldable pub ends_dynamic : List TypeEntry → List Member → Bool
ends_dynamic ts [] = true
ends_dynamic ts (m ∷ []) = is_dynamic (inner_at ts m.type)
ends_dynamic ts (m ∷ (q ∷ ms)) = ends_dynamic ts (q ∷ ms)

-- "Wrapped is `global_needs_wrapper`.": by its type
abbrev pub wraps_type : List TypeEntry → TypeInner → Bool
wraps_type ts (Scalar k w) = true
wraps_type ts (Vector n k w) = true
wraps_type ts (Matrix c r w) = true
wraps_type ts (Atomic k w) = true
wraps_type ts (Pointer b s a) = true
wraps_type ts (ValuePointer n k w s a) = true
wraps_type ts (Array b n d) = true
wraps_type ts (Struct n ms) = not (ends_dynamic ts ms)
wraps_type ts (Image d a c x y) = true
wraps_type ts (Sampler c) = true
wraps_type ts AccelerationStructure = true
wraps_type ts RayQuery = true
wraps_type ts (BindingArray b n) = false

-- .. of a Uniform, Storage or PushConstant global
unfoldable pub needs_wrapper : List TypeEntry → Global → Bool
needs_wrapper ts g = among g.space (uniform_space ∷ storage_space ∷ push_constant_space ∷ []) && wraps_type ts (inner_at ts g.type)

-- the base of a BindingArray
abbrev pub binding_base : TypeInner → Option ℕ
binding_base (Scalar k w) = None
binding_base (Vector n k w) = None
binding_base (Matrix c r w) = None
binding_base (Atomic k w) = None
binding_base (Pointer b s a) = None
binding_base (ValuePointer n k w s a) = None
binding_base (Array b n d) = None
binding_base (Struct n ms) = None
binding_base (Image d a c x y) = None
binding_base (Sampler c) = None
binding_base AccelerationStructure = None
binding_base RayQuery = None
binding_base (BindingArray b n) = Some b

-- the size to which a group and binding are remapped
unfoldable pub remap_of : List Remap → ℕ → ℕ → Option ℕ
remap_of [] g b = None
remap_of (m ∷ ms) g b = pick (eqb m.group g && eqb m.binding b) (Some m.size) (remap_of ms g b)

-- the form of a global's pointer: to its type as it is, to a wrapper, or to a remapped array
pub data PointerForm : Type 0 where
  direct : PointerForm
  in_wrapper : PointerForm
  remapped : ℕ → ℕ → PointerForm

-- "A bound global of BindingArray type whose group and binding are remapped uses a shared pointer shape .. on other globals a
-- remap does nothing."
abbrev pub remapped_form : Option ℕ → Option ℕ → PointerForm
remapped_form None n = direct
remapped_form (Some b) None = direct
remapped_form (Some b) (Some n) = remapped b n

abbrev pub pointer_form_of : Seen → Global → PointerForm
pointer_form_of n g =
    pick (needs_wrapper n.types g) in_wrapper
    (pick (is_bound g) (remapped_form (binding_base (inner_at n.types g.type)) (remap_of n.remaps g.group g.binding)) direct)

-- "A wrapper's id is taken before its pointer's", "A wrapper has Block, then its member's decorations"
abbrev pub wrap : List TypeEntry → ℕ → ℕ → State → Got
wrap ts t class s =
    let w = suc s.last in
    let g = find (entry t) (decorate_member false ts w 0 (record { type = t; offset = 0; name = None }) (annotate (block w) (take_id s))) in
    let u = declare_alone (type_struct w (g.id ∷ [])) g.state in
    got (suc u.last) (declare_alone (type_pointer (suc u.last) class w) (take_id u))

abbrev pub pointer_of : PointerForm → List TypeEntry → Global → State → Got
pointer_of direct ts g s = find (shape (pointer g.type (storage_class g.space))) s
pointer_of in_wrapper ts g s = wrap ts g.type (storage_class g.space) s
pointer_of (remapped b n) ts g s = find (shape (binding_pointer b n g.space g.access)) s

-- "each Storage global of BindingArray type puts Block on the base", where it has none yet (paper 5)
abbrev pub block_base : Bool → Option ℕ → State → State
block_base false b s = s
block_base true None s = s
block_base true (Some b) s = let g = find (entry b) s in block_once g.id g.state

-- "A Private global without init, or a WorkGroup one under flag bit 1, gets a null.", "a global's null comes after its pointer"
abbrev pub gets_null : Options → Global → Bool
gets_null o g = eqb g.space private_space || (eqb g.space work_group_space && o.zeroing)

pub record GotInit : Type 0 where
  pub init : Option ℕ
  pub state : State

abbrev pub init_for : Option ℕ → Bool → ℕ → State → GotInit
init_for (Some c) b t s = record { init = Some (value_at s c).id; state = s }
init_for None false t s = record { init = None; state = s }
init_for None true t s = let g = find (entry t) s in let z = null_of g.id g.state in record { init = Some z.id; state = z.state }

unfoldable pub declare_global : Options → Seen → Global → State → State
declare_global o n g s =
    let id = suc s.last in
    let ts = n.types in
    let a = decorate_binding (is_bound g) g id (decorate_access (access_of ts g) id (label_if o.debug (name id) g.name (take_id s))) in
    let p = pointer_of (pointer_form_of n g) ts g a in
    let b = block_base (eqb g.space storage_space) (binding_base (inner_at ts g.type)) p.state in
    let z = init_for g.init (gets_null o g) g.type b in
    declare_alone (variable p.id id (storage_class g.space) z.init) z.state

-- ---- one record's entry, given what was read before it

abbrev pub declare_entry : Options → Seen → Entry → State → State
declare_entry o n (available cs) s = s
declare_entry o n (remap m) s = s
declare_entry o n (type t) s = declare_type o.debug n.types t s
declare_entry o n (function f) s = declare_function f s
declare_entry o n (constant e) s = declare_constant n.types e s
declare_entry o n (global g) s = declare_global o n g s
