-- Instructions as data, their words, and the module's words (the SPIR-V Specification, "Physical Layout of a SPIR-V
-- Module and Instruction"). "Instructions, opcodes, operands and packed names are the SPIR-V Specification's."
use Rattle.std.specs.Prelude.{ℕ, suc, ◌+◌, ◌*◌, Bool, List, [], ◌∷◌, ◌++◌, leb, length, drop}
use Rattle.std.specs.Prelude.{Option, Some, None}
use Rattle.definition.specs.Choice.{pick}
use Rattle.definition.specs.Numbers.{MagicNumber, OpName, OpMemberName, OpCapability, OpTypeVoid, OpTypeBool, OpTypeInt, OpTypeFloat, OpTypeVector, OpTypeMatrix, OpTypeImage, OpTypeSampler, OpTypeArray, OpTypeRuntimeArray, OpTypeStruct, OpTypePointer, OpTypeFunction, OpConstantTrue, OpConstantFalse, OpConstant, OpConstantComposite, OpConstantNull, OpVariable, OpDecorate, OpMemberDecorate, OpTypeRayQueryKHR, OpTypeAccelerationStructureKHR}

-- ---- an instruction: its opcode, result type, result id and other operands

pub record Instruction : Type 0 where
  pub opcode : ℕ
  pub type : Option ℕ
  pub result : Option ℕ
  pub operands : List ℕ

abbrev pub optional : Option ℕ → List ℕ
optional None = []
optional (Some x) = x ∷ []

-- what stands behind an instruction's first word
abbrev pub body : Instruction → List ℕ
body i = optional i.type ++ (optional i.result ++ i.operands)

-- the word count in the high half of the first word, the opcode in the low half; then the operands
unfoldable pub words : Instruction → List ℕ
words i = (65536 * suc (length (body i)) + i.opcode) ∷ body i

unfoldable pub all_words : List Instruction → List ℕ
all_words [] = []
all_words (i ∷ is) = words i ++ all_words is

-- ---- literal strings: UTF-8 octets, four to a word, the first in the lowest 8 bits, closed by a zero octet

abbrev pub little_endian : ℕ → ℕ → ℕ → ℕ → ℕ
little_endian a b c d = a + 256 * b + 65536 * c + 16777216 * d

unfoldable pub packed : List ℕ → List ℕ
packed [] = little_endian 0 0 0 0 ∷ []
packed (a ∷ []) = little_endian a 0 0 0 ∷ []
packed (a ∷ (b ∷ [])) = little_endian a b 0 0 ∷ []
packed (a ∷ (b ∷ (c ∷ []))) = little_endian a b c 0 ∷ []
packed (a ∷ (b ∷ (c ∷ (d ∷ bs)))) = little_endian a b c d ∷ packed bs

-- ---- the instructions that document 01's rules show

abbrev pub plain : ℕ → List ℕ → Instruction
plain o xs = record { opcode = o; type = None; result = None; operands = xs }

abbrev pub type_op : ℕ → ℕ → List ℕ → Instruction
type_op o id xs = record { opcode = o; type = None; result = Some id; operands = xs }

abbrev pub value_op : ℕ → ℕ → ℕ → List ℕ → Instruction
value_op o type id xs = record { opcode = o; type = Some type; result = Some id; operands = xs }

abbrev pub capability : ℕ → Instruction
capability c = plain OpCapability (c ∷ [])

abbrev pub name : ℕ → List ℕ → Instruction
name target bs = plain OpName (target ∷ packed bs)

abbrev pub member_name : ℕ → ℕ → List ℕ → Instruction
member_name target member bs = plain OpMemberName (target ∷ member ∷ packed bs)

abbrev pub decorate : ℕ → ℕ → List ℕ → Instruction
decorate target decoration xs = plain OpDecorate (target ∷ decoration ∷ xs)

abbrev pub member_decorate : ℕ → ℕ → ℕ → List ℕ → Instruction
member_decorate target member decoration xs = plain OpMemberDecorate (target ∷ member ∷ decoration ∷ xs)

abbrev pub type_bool : ℕ → Instruction
type_bool id = type_op OpTypeBool id []

-- signedness: 0 unsigned, 1 signed
abbrev pub type_int : ℕ → ℕ → ℕ → Instruction
type_int id bits signedness = type_op OpTypeInt id (bits ∷ signedness ∷ [])

abbrev pub type_float : ℕ → ℕ → Instruction
type_float id bits = type_op OpTypeFloat id (bits ∷ [])

abbrev pub type_vector : ℕ → ℕ → ℕ → Instruction
type_vector id component count = type_op OpTypeVector id (component ∷ count ∷ [])

abbrev pub type_matrix : ℕ → ℕ → ℕ → Instruction
type_matrix id column count = type_op OpTypeMatrix id (column ∷ count ∷ [])

-- depth, arrayed and multisampled 0 or 1; sampled 1 with a sampler, 2 without
abbrev pub type_image : ℕ → ℕ → ℕ → ℕ → ℕ → ℕ → ℕ → ℕ → Instruction
type_image id sampled_type dim depth arrayed multisampled sampled format =
    type_op OpTypeImage id (sampled_type ∷ dim ∷ depth ∷ arrayed ∷ multisampled ∷ sampled ∷ format ∷ [])

abbrev pub type_sampler : ℕ → Instruction
type_sampler id = type_op OpTypeSampler id []

abbrev pub type_acceleration_structure : ℕ → Instruction
type_acceleration_structure id = type_op OpTypeAccelerationStructureKHR id []

abbrev pub type_ray_query : ℕ → Instruction
type_ray_query id = type_op OpTypeRayQueryKHR id []

abbrev pub type_array : ℕ → ℕ → ℕ → Instruction
type_array id element length = type_op OpTypeArray id (element ∷ length ∷ [])

abbrev pub type_runtime_array : ℕ → ℕ → Instruction
type_runtime_array id element = type_op OpTypeRuntimeArray id (element ∷ [])

abbrev pub type_struct : ℕ → List ℕ → Instruction
type_struct id members = type_op OpTypeStruct id members

abbrev pub type_pointer : ℕ → ℕ → ℕ → Instruction
type_pointer id class type = type_op OpTypePointer id (class ∷ type ∷ [])

abbrev pub type_void : ℕ → Instruction
type_void id = type_op OpTypeVoid id []

-- the return type's id, then the parameters'
abbrev pub type_function : ℕ → List ℕ → Instruction
type_function id types = type_op OpTypeFunction id types

abbrev pub constant_true : ℕ → ℕ → Instruction
constant_true type id = value_op OpConstantTrue type id []

abbrev pub constant_false : ℕ → ℕ → Instruction
constant_false type id = value_op OpConstantFalse type id []

-- the value's words, the lowest first
abbrev pub constant_op : ℕ → ℕ → List ℕ → Instruction
constant_op type id value = value_op OpConstant type id value

abbrev pub constant_composite : ℕ → ℕ → List ℕ → Instruction
constant_composite type id parts = value_op OpConstantComposite type id parts

abbrev pub constant_null : ℕ → ℕ → Instruction
constant_null type id = value_op OpConstantNull type id []

-- the initializer is no operand or one
abbrev pub variable : ℕ → ℕ → ℕ → Option ℕ → Instruction
variable type id class init = value_op OpVariable type id (class ∷ optional init)

-- ---- "Header: 0x07230203, 0x00010300, 28, bound (last id plus 1), 0."

abbrev pub version : ℕ
version = 0x00010300

abbrev pub generator : ℕ
generator = 28

abbrev pub header : ℕ → List ℕ
header bound = MagicNumber ∷ version ∷ generator ∷ bound ∷ 0 ∷ []

-- ---- "Each section is written into what is left of the word buffer."

abbrev pub fits : List ℕ → List ℕ → Bool
fits ws buffer = leb (length ws) (length buffer)

-- the buffer with the words at its front, or as it was where they do not fit
unfoldable pub put : List ℕ → List ℕ → List ℕ
put ws buffer = pick (fits ws buffer) (ws ++ drop (length ws) buffer) buffer

-- how many words were written
unfoldable pub put_count : List ℕ → List ℕ → ℕ
put_count ws buffer = pick (fits ws buffer) (length ws) 0
