-- Reading a module by the SPIR-V Specification alone: the words of the header, the word count and opcode of each instruction,
-- and for each opcode what its operands are. It knows nothing of sheets or rules. What is malformed has no reading.
use Rattle.std.specs.Prelude.{ℕ, suc, zero, ◌-◌, ◌/◌, ◌%◌, Bool, true, false, ◌&&◌, not, List, [], ◌∷◌, ◌++◌, eqb, leb, ltb, length, take, drop, get_or}
use Rattle.std.specs.Prelude.{Option, Some, None}
use Rattle.definition.specs.Choice.{pick, every}
use Rattle.definition.specs.Numbers.{MagicNumber, OpName, OpMemberName, OpCapability, OpTypeVoid, OpTypeBool, OpTypeInt, OpTypeFloat, OpTypeVector, OpTypeMatrix, OpTypeImage, OpTypeSampler, OpTypeArray, OpTypeRuntimeArray, OpTypeStruct, OpTypePointer, OpTypeFunction, OpConstantTrue, OpConstantFalse, OpConstant, OpConstantComposite, OpConstantNull, OpVariable, OpDecorate, OpMemberDecorate, OpTypeRayQueryKHR, OpTypeAccelerationStructureKHR}
use Rattle.definition.specs.Instructions.{Instruction, optional}

-- ---- operands

-- an id, a literal number of one word, a literal string, any number of ids, of numbers, or at most one id, up to the end
pub data Operand : Type 0 where
  id number string ids numbers id_or_none : Operand

-- the octets of a word, the lowest first
abbrev pub octet : ℕ → ℕ → ℕ
octet zero w = w % 256
octet (suc n) w = octet n (w / 256)

abbrev pub is_zero : ℕ → Bool
is_zero x = eqb x 0

-- no octet of the word is zero
abbrev pub full : ℕ → Bool
full w = not (is_zero (octet 0 w)) && (not (is_zero (octet 1 w)) && (not (is_zero (octet 2 w)) && not (is_zero (octet 3 w))))

-- a zero octet ends the string in this word, and nothing but zero octets follows it
abbrev pub closing : ℕ → Bool
closing w =
    pick (is_zero (octet 0 w)) (is_zero w)
    (pick (is_zero (octet 1 w)) (is_zero (w / 256))
    (pick (is_zero (octet 2 w)) (is_zero (w / 65536))
    (is_zero (octet 3 w))))

-- a literal string: "nul-terminated", its last word alone holding the end
unfoldable pub is_string : List ℕ → Bool
is_string [] = false
is_string (w ∷ []) = closing w
is_string (w ∷ (v ∷ ws)) = full w && is_string (v ∷ ws)

-- the words are the operands
abbrev pub formed : List Operand → List ℕ → Bool
formed [] [] = true
formed [] (x ∷ xs) = false
formed (id ∷ os) [] = false
formed (id ∷ os) (x ∷ xs) = formed os xs
formed (number ∷ os) [] = false
formed (number ∷ os) (x ∷ xs) = formed os xs
formed (string ∷ os) xs = is_string xs
formed (ids ∷ os) xs = true
formed (numbers ∷ os) xs = true
formed (id_or_none ∷ os) [] = true
formed (id_or_none ∷ os) (x ∷ []) = true
formed (id_or_none ∷ os) (x ∷ (y ∷ xs)) = false

-- the ids among them
abbrev pub ids_among : List Operand → List ℕ → List ℕ
ids_among [] xs = []
ids_among (id ∷ os) [] = []
ids_among (id ∷ os) (x ∷ xs) = x ∷ ids_among os xs
ids_among (number ∷ os) [] = []
ids_among (number ∷ os) (x ∷ xs) = ids_among os xs
ids_among (string ∷ os) xs = []
ids_among (ids ∷ os) xs = xs
ids_among (numbers ∷ os) xs = []
ids_among (id_or_none ∷ os) xs = xs

-- ---- opcodes: whether an instruction has a result type and a result, and its other operands

pub record Layout : Type 0 where
  pub known : Bool
  pub typed : Bool
  pub declares : Bool
  pub operands : List Operand

abbrev pub statement : List Operand → Layout
statement os = record { known = true; typed = false; declares = false; operands = os }

abbrev pub type_layout : List Operand → Layout
type_layout os = record { known = true; typed = false; declares = true; operands = os }

abbrev pub value_layout : List Operand → Layout
value_layout os = record { known = true; typed = true; declares = true; operands = os }

abbrev pub unknown : Layout
unknown = record { known = false; typed = false; declares = false; operands = [] }

-- The constants of OpConstant take as many words as their type has, one at least; a decoration's own operands are numbers.
abbrev pub layout_of : ℕ → Layout
layout_of o =
    pick (eqb o OpName) (statement (id ∷ string ∷ []))
    (pick (eqb o OpMemberName) (statement (id ∷ number ∷ string ∷ []))
    (pick (eqb o OpCapability) (statement (number ∷ []))
    (pick (eqb o OpTypeVoid) (type_layout [])
    (pick (eqb o OpTypeBool) (type_layout [])
    (pick (eqb o OpTypeInt) (type_layout (number ∷ number ∷ []))
    (pick (eqb o OpTypeFloat) (type_layout (number ∷ []))
    (pick (eqb o OpTypeVector) (type_layout (id ∷ number ∷ []))
    (pick (eqb o OpTypeMatrix) (type_layout (id ∷ number ∷ []))
    (pick (eqb o OpTypeImage) (type_layout (id ∷ number ∷ number ∷ number ∷ number ∷ number ∷ number ∷ []))
    (pick (eqb o OpTypeSampler) (type_layout [])
    (pick (eqb o OpTypeArray) (type_layout (id ∷ id ∷ []))
    (pick (eqb o OpTypeRuntimeArray) (type_layout (id ∷ []))
    (pick (eqb o OpTypeStruct) (type_layout (ids ∷ []))
    (pick (eqb o OpTypePointer) (type_layout (number ∷ id ∷ []))
    (pick (eqb o OpTypeFunction) (type_layout (id ∷ ids ∷ []))
    (pick (eqb o OpConstantTrue) (value_layout [])
    (pick (eqb o OpConstantFalse) (value_layout [])
    (pick (eqb o OpConstant) (value_layout (number ∷ numbers ∷ []))
    (pick (eqb o OpConstantComposite) (value_layout (ids ∷ []))
    (pick (eqb o OpConstantNull) (value_layout [])
    (pick (eqb o OpVariable) (value_layout (number ∷ id_or_none ∷ []))
    (pick (eqb o OpDecorate) (statement (id ∷ number ∷ numbers ∷ []))
    (pick (eqb o OpMemberDecorate) (statement (id ∷ number ∷ number ∷ numbers ∷ []))
    (pick (eqb o OpTypeRayQueryKHR) (type_layout [])
    (pick (eqb o OpTypeAccelerationStructureKHR) (type_layout [])
    unknown)))))))))))))))))))))))))

-- the ids that an instruction uses: its result type, and its operands that are ids
unfoldable pub uses : Instruction → List ℕ
uses i = optional i.type ++ ids_among (layout_of i.opcode).operands i.operands

-- ---- instructions

-- result type and result stand first, where there are any
abbrev pub split : ℕ → Bool → Bool → List ℕ → Option Instruction
split o true true [] = None
split o true true (t ∷ []) = None
split o true true (t ∷ (r ∷ xs)) = Some (record { opcode = o; type = Some t; result = Some r; operands = xs })
split o true false [] = None
split o true false (t ∷ xs) = Some (record { opcode = o; type = Some t; result = None; operands = xs })
split o false true [] = None
split o false true (r ∷ xs) = Some (record { opcode = o; type = None; result = Some r; operands = xs })
split o false false xs = Some (record { opcode = o; type = None; result = None; operands = xs })

abbrev pub checked : Option Instruction → Option Instruction
checked None = None
checked (Some i) = pick (formed (layout_of i.opcode).operands i.operands) (Some i) None

-- refused: a word count of 0, words that are missing, an opcode that is not known, operands that are not its own
abbrev pub read_one : Bool → Bool → Bool → ℕ → List ℕ → Option Instruction
read_one false b c o ws = None
read_one true false c o ws = None
read_one true true false o ws = None
read_one true true true o ws = checked (split o (layout_of o).typed (layout_of o).declares ws)

abbrev pub joined : Option Instruction → Option (List Instruction) → Option (List Instruction)
joined None r = None
joined (Some i) None = None
joined (Some i) (Some is) = Some (i ∷ is)

-- the high half of an instruction's first word is its word count, the low half its opcode
unfoldable pub read_all : ℕ → List ℕ → Option (List Instruction)
read_all zero [] = Some []
read_all zero (w ∷ ws) = None
read_all (suc fuel) [] = Some []
read_all (suc fuel) (w ∷ ws) =
    let n = w / 65536 - 1 in
    joined (read_one (leb 1 (w / 65536)) (leb n (length ws)) (layout_of (w % 65536)).known (w % 65536) (take n ws)) (read_all fuel (drop n ws))

-- ---- modules

-- a module: its version, generator and bound, and its instructions
pub record Module : Type 0 where
  pub version : ℕ
  pub generator : ℕ
  pub bound : ℕ
  pub instructions : List Instruction

abbrev pub module_of : ℕ → ℕ → ℕ → Option (List Instruction) → Option Module
module_of v g b None = None
module_of v g b (Some is) = Some (record { version = v; generator = g; bound = b; instructions = is })

-- words have 32 bits
abbrev pub is_word : ℕ → Bool
is_word w = ltb w 4294967296

-- five words: magic number, version, generator, bound, and 0, reserved
unfoldable pub read_module : List ℕ → Option Module
read_module ws =
    pick (leb 5 (length ws) && (every is_word ws && (eqb (get_or ws 0 0) MagicNumber && eqb (get_or ws 4 0) 0)))
    (module_of (get_or ws 1 0) (get_or ws 2 0) (get_or ws 3 0) (read_all (length ws) (drop 5 ws)))
    None
