-- The sheet ("A house format, added here. Big-endian."): its header, its records and the fields of each tag.
-- Types, constants and globals bear the Rust's names. Document 01's own terms, which the Rust has not, are marked so where they
-- are defined: sheet, record, tag, rank and start among them.
use Rattle.std.specs.Prelude.{ℕ, zero, suc, ◌+◌, ◌*◌, ◌-◌, ◌/◌, ◌%◌, Bool, List, [], ◌∷◌, eqb, length, take, drop}
use Rattle.std.specs.Prelude.{Option, Some, None}
use Rattle.definition.specs.Choice.{pick, within}
use Rattle.definition.specs.Bytes.{u8_at, u16_at, u32_at, u64_at, Name, name_at, name_end}
use Rattle.definition.specs.Literals.{Literal, f64, f32, u32, i32, boolean}

-- ---- "Byte 0 version 1; 4 bytes start, the last id already given out; 1 byte flags"

abbrev pub version_of : List ℕ → ℕ
version_of s = u8_at s 0

abbrev pub start_of : List ℕ → ℕ
start_of s = u32_at s 1

abbrev pub flags_of : List ℕ → ℕ
flags_of s = u8_at s 5

abbrev pub header_length : ℕ
header_length = 6

-- "bit 0 debug names, bit 1 native workgroup zeroing"
pub record Options : Type 0 where
  pub debug : Bool
  pub zeroing : Bool

abbrev pub options_of : ℕ → Options
options_of flags = record { debug = eqb (flags % 2) 1; zeroing = eqb (flags / 2 % 2) 1 }

-- ---- "Then records: a 16-bit length first, then that many bytes, the first a tag."

pub record Record : Type 0 where
  pub tag : ℕ
  pub body : List ℕ

-- the record at the front of what is left of the sheet, and what is left behind it
unfoldable pub record_at : List ℕ → Record
record_at rest = record { tag = u8_at rest 2; body = take (u16_at rest 0 - 1) (drop 3 rest) }

unfoldable pub after_record : List ℕ → List ℕ
after_record rest = drop (2 + u16_at rest 0) rest

-- "Rank rises as listed.": Available 1, Remap 2, types 3, functions 4 (paper 2: "between types and constants"), constants 5,
-- globals 6; 0 is no tag
unfoldable pub tag_rank : ℕ → ℕ
tag_rank t =
    pick (eqb t 1) 1
    (pick (eqb t 2) 2
    (pick (within 16 28 t) 3
    (pick (eqb t 48) 4
    (pick (within 64 68 t) 5
    (pick (eqb t 96) 6 0)))))

-- ---- "Space: 0 Function, 1 Private, 2 WorkGroup, 3 Uniform, 4 Storage, 5 Handle, 6 PushConstant"

abbrev pub function_space : ℕ
function_space = 0

abbrev pub private_space : ℕ
private_space = 1

abbrev pub work_group_space : ℕ
work_group_space = 2

abbrev pub uniform_space : ℕ
uniform_space = 3

abbrev pub storage_space : ℕ
storage_space = 4

abbrev pub handle_space : ℕ
handle_space = 5

abbrev pub push_constant_space : ℕ
push_constant_space = 6

-- ---- types (tags 16 to 28), named as the paper names them, which are the Rust's names (`TypeInner`), the fields in its order

pub record Member : Type 0 where
  pub type : ℕ
  pub offset : ℕ
  pub name : Name

pub data TypeInner : Type 0 where
  Scalar : ℕ → ℕ → TypeInner
  Vector : ℕ → ℕ → ℕ → TypeInner
  Matrix : ℕ → ℕ → ℕ → TypeInner
  Atomic : ℕ → ℕ → TypeInner
  Pointer : ℕ → ℕ → ℕ → TypeInner
  ValuePointer : ℕ → ℕ → ℕ → ℕ → ℕ → TypeInner
  Array : ℕ → ℕ → ℕ → TypeInner
  Struct : ℕ → List Member → TypeInner
  Image : ℕ → ℕ → ℕ → ℕ → ℕ → TypeInner
  Sampler : ℕ → TypeInner
  AccelerationStructure : TypeInner
  RayQuery : TypeInner
  BindingArray : ℕ → ℕ → TypeInner

-- a type: the record that it was read from, its name and its fields
pub record TypeEntry : Type 0 where
  pub source : Record
  pub name : Name
  pub inner : TypeInner

-- ---- function types (tag 48, paper 2): "a return type (65,535 for void), a count byte 0 to 16 and that many parameter types"

pub record Function : Type 0 where
  pub result : Option ℕ
  pub parameters : List ℕ

-- ---- constants (tags 64 to 68); a Compose's parts and a Splat's value are constants
-- Alias is document 01's term: the Rust's `Expression::Constant`. Value is a Literal record, the Rust's `Expression::Literal`.

pub data Expression : Type 0 where
  Value : Literal → Expression
  Alias : ℕ → Expression
  ZeroValue : ℕ → Expression
  Compose : ℕ → List ℕ → Expression
  Splat : ℕ → ℕ → Expression

-- ---- globals (tag 96)

pub record Global : Type 0 where
  pub name : Name
  pub type : ℕ
  pub space : ℕ
  pub access : ℕ
  pub bound : ℕ
  pub group : ℕ
  pub binding : ℕ
  pub init : Option ℕ

-- Remap is document 01's term: an entry of the Rust's `binding_map`, whose size is its `binding_array_size`
pub record Remap : Type 0 where
  pub group : ℕ
  pub binding : ℕ
  pub size : ℕ

-- ---- what a record says

-- available is document 01's term (Available): the Rust's `capabilities_available`
pub data Entry : Type 0 where
  available : List ℕ → Entry
  remap : Remap → Entry
  type : TypeEntry → Entry
  function : Function → Entry
  constant : Expression → Entry
  global : Global → Entry

-- fields, and where in the body they end
pub record Fields (A : Type 0) : Type 0 where
  pub value : A
  pub end : ℕ

abbrev pub ending : {A : Type 0} → ℕ → A → Fields A
ending n a = record { value = a; end = n }

-- n numbers of 16 or of 32 bits, from place p on
unfoldable pub u16s_at : List ℕ → ℕ → ℕ → List ℕ
u16s_at b p zero = []
u16s_at b p (suc n) = u16_at b p ∷ u16s_at b (p + 2) n

unfoldable pub u32s_at : List ℕ → ℕ → ℕ → List ℕ
u32s_at b p zero = []
u32s_at b p (suc n) = u32_at b p ∷ u32s_at b (p + 4) n

-- "members each type, 32-bit offset, name": n members from place p on
unfoldable pub members_at : List ℕ → ℕ → ℕ → List Member
members_at b p zero = []
members_at b p (suc n) =
    record { type = u16_at b p; offset = u32_at b (p + 2); name = name_at b (p + 6) } ∷ members_at b (name_end b (p + 6)) n

unfoldable pub members_end : List ℕ → ℕ → ℕ → ℕ
members_end b p zero = p
members_end b p (suc n) = members_end b (name_end b (p + 6)) n

-- "Struct 32-bit span, count byte 0 to 64, members": n is where the name ends
abbrev pub struct_fields : List ℕ → ℕ → Fields TypeInner
struct_fields b n = ending (members_end b (n + 5) (u8_at b (n + 4))) (Struct (u32_at b n) (members_at b (n + 5) (u8_at b (n + 4))))

-- the fields of a type behind its name, which ends at n
unfoldable pub type_fields : ℕ → List ℕ → ℕ → Fields TypeInner
type_fields t b n =
    pick (eqb t 16) (ending (n + 2) (Scalar (u8_at b n) (u8_at b (n + 1))))
    (pick (eqb t 17) (ending (n + 3) (Vector (u8_at b n) (u8_at b (n + 1)) (u8_at b (n + 2))))
    (pick (eqb t 18) (ending (n + 3) (Matrix (u8_at b n) (u8_at b (n + 1)) (u8_at b (n + 2))))
    (pick (eqb t 19) (ending (n + 2) (Atomic (u8_at b n) (u8_at b (n + 1))))
    (pick (eqb t 20) (ending (n + 4) (Pointer (u16_at b n) (u8_at b (n + 2)) (u8_at b (n + 3))))
    (pick (eqb t 21) (ending (n + 5) (ValuePointer (u8_at b n) (u8_at b (n + 1)) (u8_at b (n + 2)) (u8_at b (n + 3)) (u8_at b (n + 4))))
    (pick (eqb t 22) (ending (n + 10) (Array (u16_at b n) (u32_at b (n + 2)) (u32_at b (n + 6))))
    (pick (eqb t 23) (struct_fields b n)
    (pick (eqb t 24) (ending (n + 5) (Image (u8_at b n) (u8_at b (n + 1)) (u8_at b (n + 2)) (u8_at b (n + 3)) (u8_at b (n + 4))))
    (pick (eqb t 25) (ending (n + 1) (Sampler (u8_at b n)))
    (pick (eqb t 26) (ending n AccelerationStructure)
    (pick (eqb t 27) (ending n RayQuery)
    (ending (n + 6) (BindingArray (u16_at b n) (u32_at b (n + 2)))))))))))))))

-- "form byte 0 F64, 1 F32, 2 U32, 3 I32, 4 Bool, then 8, 4, 4, 4 or 1 bytes"
abbrev pub form_of : List ℕ → ℕ
form_of b = u8_at b 0

unfoldable pub literal_fields : List ℕ → Fields Literal
literal_fields b =
    pick (eqb (form_of b) 0) (ending 9 (f64 (u64_at b 1)))
    (pick (eqb (form_of b) 1) (ending 5 (f32 (u32_at b 1)))
    (pick (eqb (form_of b) 2) (ending 5 (u32 (u32_at b 1)))
    (pick (eqb (form_of b) 3) (ending 5 (i32 (u32_at b 1)))
    (ending 2 (boolean (u8_at b 1))))))

-- "64 Literal ..; 65 Alias of a constant; 66 ZeroValue type; 67 Compose type, 16-bit count, constants; 68 Splat size, constant"
unfoldable pub constant_fields : ℕ → List ℕ → Fields Expression
constant_fields t b =
    pick (eqb t 64) (ending (literal_fields b).end (Value (literal_fields b).value))
    (pick (eqb t 65) (ending 2 (Alias (u16_at b 0)))
    (pick (eqb t 66) (ending 2 (ZeroValue (u16_at b 0)))
    (pick (eqb t 67) (ending (4 + 2 * u16_at b 2) (Compose (u16_at b 0) (u16s_at b 4 (u16_at b 2))))
    (ending 3 (Splat (u8_at b 0) (u16_at b 1))))))

-- "16-bit init (65,535 none)", "65,535 for void"
abbrev pub init_of : ℕ → Option ℕ
init_of i = pick (eqb i 65535) None (Some i)

unfoldable pub function_fields : List ℕ → Fields Function
function_fields b = ending (3 + 2 * u8_at b 2) (record { result = init_of (u16_at b 0); parameters = u16s_at b 3 (u8_at b 2) })

-- "name, type, space, access, bound 0 or 1, group, binding (32 bits each, 0 if unbound), 16-bit init (65,535 none)": n is
-- where the name ends
unfoldable pub global_fields : List ℕ → ℕ → Fields Global
global_fields b n = ending (n + 15) (record {
  name = name_at b 0;
  type = u16_at b n;
  space = u8_at b (n + 2);
  access = u8_at b (n + 3);
  bound = u8_at b (n + 4);
  group = u32_at b (n + 5);
  binding = u32_at b (n + 9);
  init = init_of (u16_at b (n + 13));
})

-- "any number of 32-bit capability numbers"
unfoldable pub available_fields : List ℕ → Fields (List ℕ)
available_fields b = ending (length b / 4 * 4) (u32s_at b 0 (length b / 4))

-- "group, binding, size, 32 bits each"
unfoldable pub remap_fields : List ℕ → Fields Remap
remap_fields b = ending 12 (record { group = u32_at b 0; binding = u32_at b 4; size = u32_at b 8 })

abbrev pub map_fields : {A B : Type 0} → (A → B) → Fields A → Fields B
map_fields f x = ending x.end (f x.value)

abbrev pub type_entry : Record → TypeInner → TypeEntry
type_entry r i = record { source = r; name = name_at r.body 0; inner = i }

-- the entry of a record, by the rank of its tag
unfoldable pub entry_of : Record → Fields Entry
entry_of r =
    pick (eqb (tag_rank r.tag) 1) (map_fields available (available_fields r.body))
    (pick (eqb (tag_rank r.tag) 2) (map_fields remap (remap_fields r.body))
    (pick (eqb (tag_rank r.tag) 3) (map_fields (λ i. type (type_entry r i)) (type_fields r.tag r.body (name_end r.body 0)))
    (pick (eqb (tag_rank r.tag) 4) (map_fields function (function_fields r.body))
    (pick (eqb (tag_rank r.tag) 5) (map_fields constant (constant_fields r.tag r.body))
    (map_fields global (global_fields r.body (name_end r.body 0)))))))
