-- How a writer holds a state in the two slices that it is lent.
use Rattle.std.specs.Prelude.{ℕ, ◌+◌, ◌*◌, ◌≤◌, ◌<◌, ◌≡◌, List, [], ◌∷◌, ◌++◌, map, length}
use Rattle.std.specs.Prelude.{Option, Some, None}
use Rattle.definition.specs.Literals.{Literal}
use Rattle.definition.specs.Instructions.{Instruction, all_words}
use Rattle.definition.specs.Shapes.{Kind, Key}
use Rattle.definition.specs.State.{State, Composite, composite, Valued, function, void}
use Rattle.definition.specs.Rules.{blocked}
use Rattle.literals.specs.Forms.{literal_form, bits_of}
use Rattle.lookup.specs.Packed.{packed_key, code, Small}
use Rattle.writer.specs.declared.Used.{Used}
use Rattle.writer.specs.declared.Writer.{Writer}
use Rattle.spirv.specs.Ids.{low}
use Rattle.writer.specs.Rows.{TableRow, table_row, pair, triple, table_rows, part}
use Rattle.writer.specs.Regions.{literals_at, nulls_at, values_at, composites_at, blocked_at, parts_at, section_at, names, annotations, declarations}
use Rattle.writer.specs.Cost.{Cost}

-- ---- the regions' contents

pub record Tables : Type 0 where
  pub types : List TableRow
  pub literals : List TableRow
  pub nulls : List TableRow
  pub values : List TableRow
  pub composites : List TableRow
  pub blocked : List ℕ
  pub parts : List ℕ

pub record Sections : Type 0 where
  pub capabilities : List ℕ
  pub names : List ℕ
  pub annotations : List ℕ
  pub declarations : List ℕ

-- as they lie in the two lists
abbrev pub tables_of : Used → List ℕ → Tables
tables_of u T = record {
  types = table_rows pair T 0 u.types;
  literals = table_rows triple T (literals_at u) u.literals;
  nulls = table_rows pair T (nulls_at u) u.nulls;
  values = table_rows triple T (values_at u) u.values;
  composites = table_rows triple T (composites_at u) u.composites;
  blocked = part T (blocked_at u) u.blocked;
  parts = part T (parts_at u) u.parts;
}

abbrev pub sections_of : Used → List ℕ → Sections
sections_of u S = record {
  capabilities = part S 0 u.capabilities;
  names = part S (section_at names u) u.names;
  annotations = part S (section_at annotations u) u.annotations;
  declarations = part S (section_at declarations u) u.declarations;
}

-- as the state has them

abbrev pub key_row : Key × ℕ → TableRow
key_row x = table_row (packed_key x.0) 0 x.1

abbrev pub literal_row : Literal × ℕ → TableRow
literal_row x = table_row (literal_form x.0) (bits_of x.0) x.1

abbrev pub null_row : ℕ × ℕ → TableRow
null_row x = table_row x.0 0 x.1

abbrev pub kind_code : Option Kind → ℕ
kind_code None = 0
kind_code (Some k) = 1 + code k

abbrev pub value_row : Valued → TableRow
value_row v = table_row v.id v.type (kind_code v.kind)

-- what is shared by ids, as a number and the ids: a composite's number is its type's key; 13 and 14 are no key's last digit to base
-- 16, and so no key
abbrev pub composite_key : Composite → ℕ
composite_key (composite k ps) = packed_key k
composite_key (function ps) = 13
composite_key void = 14

abbrev pub parts_of_c : Composite → List ℕ
parts_of_c (composite k ps) = ps
parts_of_c (function ps) = ps
parts_of_c void = []

-- its key is made of digits
abbrev pub SmallComposite : Composite → Type 0
SmallComposite (composite k ps) = Small k
SmallComposite (function ps) = Unit
SmallComposite void = Unit

-- a composite's parts stand apart, one composite's behind the other's
abbrev pub composite_row : Composite × ℕ → TableRow
composite_row x = table_row (composite_key x.0) (length (parts_of_c x.0)) x.1

unfoldable pub all_parts : List (Composite × ℕ) → List ℕ
all_parts [] = []
all_parts (x ∷ xs) = parts_of_c x.0 ++ all_parts xs

abbrev pub tables_in : State → Tables
tables_in s = record {
  types = map key_row s.types;
  literals = map literal_row s.constants.literals;
  nulls = map null_row s.constants.nulls;
  values = map value_row s.constants.values;
  composites = map composite_row s.constants.composites;
  blocked = blocked s.annotations;
  parts = all_parts s.constants.composites;
}

abbrev pub words_of : List Instruction → List ℕ
words_of is = map low (all_words is)

abbrev pub sections_in : State → Sections
sections_in s = record {
  capabilities = s.capabilities;
  names = words_of s.names;
  annotations = words_of s.annotations;
  declarations = words_of s.declarations;
}

-- P holds of each key of a table
abbrev pub All : {A : Type 0} → (A → Type 0) → List (A × ℕ) → Type 0
All P [] = Unit
All P (x ∷ xs) = P x.0 × All P xs

-- a kind whose code is a digit
abbrev pub SmallKind : Option Kind → Type 0
SmallKind k = kind_code k < 1025

abbrev pub AllKinds : List Valued → Type 0
AllKinds [] = Unit
AllKinds (v ∷ vs) = SmallKind v.kind × AllKinds vs

-- what is packed into one number is made of digits
pub record Digits (types : List (Key × ℕ)) (composites : List (Composite × ℕ)) (values : List Valued) : Type 0 where
  pub keys : All Small types
  pub composed : All SmallComposite composites
  pub kinds : AllKinds values

-- ---- the writer holds the state

-- by how much of two lists is in use
pub record HeldIn (u : Used) (T S : List ℕ) (s : State) : Type 0 where
  pub last : u.idgen.last ≡ s.last
  pub tables : tables_of u T ≡ tables_in s
  pub small : Digits s.types s.constants.composites s.constants.values
  pub sections : sections_of u S ≡ sections_in s

abbrev pub Held : Writer → State → Type 0
Held w s = HeldIn w.used w.tables.now w.sections.now s

-- its tables do, with whatever sections
abbrev pub HeldByTables : Writer → State → Type 0
HeldByTables w s = (S : List ℕ) × HeldIn w.used w.tables.now S s

-- ---- room, and growth

pub record RowsFit (c : Cost) (u : Used) (T : List ℕ) : Type 0 where
  pub in_list : 20 * u.records + u.bytes ≤ length T
  pub in_types : u.types + c.types ≤ 4 * u.records
  pub in_literals : u.literals + c.literals ≤ u.records
  pub in_nulls : u.nulls + c.nulls ≤ u.records
  pub in_values : u.values + c.values ≤ u.records
  pub in_composites : u.composites + c.composites ≤ u.records
  pub in_blocked : u.blocked + c.blocked ≤ u.records
  pub in_parts : u.parts + c.parts ≤ u.bytes
  pub in_ids : u.idgen.last + c.ids < 9223372036854775808

pub record WordsFit (c : Cost) (u : Used) (S : List ℕ) : Type 0 where
  pub in_list : 7 * u.bytes ≤ length S
  pub in_capabilities : u.capabilities + c.capabilities ≤ u.bytes
  pub in_names : u.names + c.names ≤ u.bytes
  pub in_annotations : u.annotations + c.annotations ≤ 2 * u.bytes
  pub in_declarations : u.declarations + c.declarations ≤ 3 * u.bytes

-- in its tables
abbrev pub RoomIn : Cost → Writer → Type 0
RoomIn c w = RowsFit c w.used w.tables.now

-- in its sections
abbrev pub RoomFor : Cost → Writer → Type 0
RoomFor c w = WordsFit c w.used w.sections.now

-- both
pub record Room (c : Cost) (w : Writer) : Type 0 where
  pub rows : RoomIn c w
  pub words : RoomFor c w

-- it is lent the same slices, which are as long as before
pub record SameLent (w v : Writer) : Type 0 where
  pub tables : v.tables.ghost_name ≡ w.tables.ghost_name
  pub sections : v.sections.ghost_name ≡ w.sections.ghost_name
  pub tables_long : length v.tables.now ≡ length w.tables.now
  pub sections_long : length v.sections.now ≡ length w.sections.now

-- after an operation of a cost there is at most that much more
pub record Grown (c : Cost) (w v : Writer) : Type 0 where
  pub lent : SameLent w v
  pub records : v.used.records ≡ w.used.records
  pub bytes : v.used.bytes ≡ w.used.bytes
  pub types : v.used.types ≤ w.used.types + c.types
  pub literals : v.used.literals ≤ w.used.literals + c.literals
  pub nulls : v.used.nulls ≤ w.used.nulls + c.nulls
  pub values : v.used.values ≤ w.used.values + c.values
  pub composites : v.used.composites ≤ w.used.composites + c.composites
  pub blocked : v.used.blocked ≤ w.used.blocked + c.blocked
  pub parts : v.used.parts ≤ w.used.parts + c.parts
  pub parts_kept : w.used.parts ≤ v.used.parts
  pub capabilities : v.used.capabilities ≤ w.used.capabilities + c.capabilities
  pub names : v.used.names ≤ w.used.names + c.names
  pub annotations : v.used.annotations ≤ w.used.annotations + c.annotations
  pub declarations : v.used.declarations ≤ w.used.declarations + c.declarations
  pub last : v.used.idgen.last ≤ w.used.idgen.last + c.ids
