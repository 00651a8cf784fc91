-- Which type is declared under an id, read by the SPIR-V Specification alone: from the instruction that has the id for its result and
-- from those that it names, down to the scalars. Each operand stands under the Specification's name for it and at the
-- Specification's place, counted from 0 behind the result id; `read_module` has seen to it that an opcode has all its operands. What
-- is found is said as a shape of document 01; an array, a struct or a pointer has none here. A function type (paper 2) is said as the
-- ids that it names. Nothing here knows how a type is written.
use Rattle.std.specs.Prelude.{ℕ, ◌/◌, ◌%◌, Bool, false, List, [], ◌∷◌, eqb, get_or}
use Rattle.std.specs.Prelude.{Option, Some, None}
use Rattle.definition.specs.Choice.{pick}
use Rattle.definition.specs.Numbers.{OpTypeVoid, OpTypeBool, OpTypeInt, OpTypeFloat, OpTypeVector, OpTypeMatrix, OpTypeImage, OpTypeSampler, OpTypeFunction, OpTypeRayQueryKHR, OpTypeAccelerationStructureKHR}
use Rattle.definition.specs.Instructions.{Instruction}
use Rattle.definition.specs.Shapes.{Kind, Shape, sint, uint, float, bool, scalar, vector, matrix, image, sampler, acceleration_structure, ray_query}

-- ---- what declares an id

abbrev pub result_is : ℕ → Option ℕ → Bool
result_is id None = false
result_is id (Some r) = eqb id r

unfoldable pub declaration_of : List Instruction → ℕ → Option Instruction
declaration_of [] id = None
declaration_of (i ∷ is) id = pick (result_is id i.result) (Some i) (declaration_of is id)

abbrev pub operand : Instruction → ℕ → ℕ
operand i n = get_or i.operands n 0

-- what is read of something, if there is something
abbrev pub then_read : {A B : Type 0} → Option A → (A → Option B) → Option B
then_read None f = None
then_read (Some a) f = f a

-- ---- scalars

-- Width, in bits; document 01 counts bytes
abbrev pub bytes_of : ℕ → Option ℕ
bytes_of width = pick (eqb (width % 8) 0) (Some (width / 8)) None

-- Signedness: 0 unsigned, 1 signed
abbrev pub integer_of : ℕ → ℕ → Option Kind
integer_of signedness bytes = pick (eqb signedness 0) (Some (uint bytes)) (pick (eqb signedness 1) (Some (sint bytes)) None)

-- OpTypeBool. OpTypeInt: Width, Signedness. OpTypeFloat: Width.
abbrev pub scalar_by : Instruction → Option Kind
scalar_by i =
    pick (eqb i.opcode OpTypeBool) (Some bool)
    (pick (eqb i.opcode OpTypeInt) (let width = operand i 0 in let signedness = operand i 1 in then_read (bytes_of width) (integer_of signedness))
    (pick (eqb i.opcode OpTypeFloat) (let width = operand i 0 in then_read (bytes_of width) (λ bytes. Some (float bytes)))
    None))

unfoldable pub read_scalar : List Instruction → ℕ → Option Kind
read_scalar is id = then_read (declaration_of is id) scalar_by

-- ---- vectors

pub record Components : Type 0 where
  pub count : ℕ
  pub kind : Kind

-- OpTypeVector: Component Type, Component Count. "Component Type .. must be a scalar type."
abbrev pub vector_by : List Instruction → Instruction → Option Components
vector_by is i =
    let component_type = operand i 0 in
    let component_count = operand i 1 in
    pick (eqb i.opcode OpTypeVector) (then_read (read_scalar is component_type) (λ k. Some (record { count = component_count; kind = k }))) None

unfoldable pub read_vector : List Instruction → ℕ → Option Components
read_vector is id = then_read (declaration_of is id) (vector_by is)

-- ---- every type but arrays, structs and pointers

-- a matrix of so many columns, each of them the vector; matrices are of floats
abbrev pub columns : ℕ → ℕ → Kind → Option Shape
columns column_count rows (float bytes) = Some (matrix column_count rows bytes)
columns column_count rows (sint bytes) = None
columns column_count rows (uint bytes) = None
columns column_count rows bool = None

-- OpTypeMatrix: Column Type, Column Count. "Column Type .. must be vector type."
abbrev pub matrix_by : List Instruction → Instruction → Option Shape
matrix_by is i =
    let column_type = operand i 0 in
    let column_count = operand i 1 in
    then_read (read_vector is column_type) (λ v. columns column_count v.count v.kind)

-- OpTypeImage: Sampled Type, Dim, Depth, Arrayed, MS, Sampled, Image Format
abbrev pub image_by : List Instruction → Instruction → Option Shape
image_by is i =
    let sampled_type = operand i 0 in
    let dim = operand i 1 in
    let depth = operand i 2 in
    let arrayed = operand i 3 in
    let ms = operand i 4 in
    let sampled = operand i 5 in
    let image_format = operand i 6 in
    then_read (read_scalar is sampled_type) (λ k. Some (image k dim depth arrayed ms sampled image_format))

abbrev pub type_by : List Instruction → Instruction → Option Shape
type_by is i =
    pick (eqb i.opcode OpTypeVector) (then_read (vector_by is i) (λ v. Some (vector v.count v.kind)))
    (pick (eqb i.opcode OpTypeMatrix) (matrix_by is i)
    (pick (eqb i.opcode OpTypeImage) (image_by is i)
    (pick (eqb i.opcode OpTypeSampler) (Some sampler)
    (pick (eqb i.opcode OpTypeAccelerationStructureKHR) (Some acceleration_structure)
    (pick (eqb i.opcode OpTypeRayQueryKHR) (Some ray_query)
    (then_read (scalar_by i) (λ k. Some (scalar k))))))))

unfoldable pub read_type : List Instruction → ℕ → Option Shape
read_type is id = then_read (declaration_of is id) (type_by is)

-- ---- void and functions

-- OpTypeVoid, which has no operands
abbrev pub void_by : Option Instruction → Bool
void_by None = false
void_by (Some i) = eqb i.opcode OpTypeVoid

unfoldable pub read_void : List Instruction → ℕ → Bool
read_void is id = void_by (declaration_of is id)

-- OpTypeFunction: Return Type, Parameter 0 Type, Parameter 1 Type, ...: the ids, the return type's first
abbrev pub function_by : Instruction → Option (List ℕ)
function_by i = pick (eqb i.opcode OpTypeFunction) (Some i.operands) None

unfoldable pub read_function : List Instruction → ℕ → Option (List ℕ)
read_function is id = then_read (declaration_of is id) function_by
