-- Tests 1 to 12 ("Operations and their refusals", "tested in the order written here"). A test answers the number of its
-- refusal, or 0. Readings of open points: docs/DECISIONS.md.
use Rattle.std.specs.Prelude.{ℕ, zero, suc, ◌+◌, Bool, true, false, ◌&&◌, ◌||◌, not, List, [], ◌∷◌, ◌++◌, eqb, leb, ltb, length}
use Rattle.std.specs.Prelude.{Option, Some, None}
use Rattle.definition.specs.Choice.{pick, unless, first, within, among, every}
use Rattle.definition.specs.Bytes.{Name, u16_at}
use Rattle.definition.specs.Utf8.{name_fits}
use Rattle.definition.specs.Literals.{Literal, f64, f32, u32, i32, boolean}
use Rattle.definition.specs.Sheet.{version_of, flags_of, Record, tag_rank, form_of, Member, TypeInner, TypeEntry, Function, Expression, Global, Remap, Entry, entry_of, record_at, after_record, header_length, push_constant_space, storage_space}
use Rattle.definition.specs.Sheet.{Scalar, Vector, Matrix, Atomic, Pointer, ValuePointer, Array, Struct, Image, Sampler, AccelerationStructure, RayQuery, BindingArray}
use Rattle.definition.specs.Sheet.{Value, Alias, ZeroValue, Compose, Splat, available, remap, type, function, constant, global}

-- ---- limits, each named once

abbrev pub sheet_least : ℕ
sheet_least = header_length

abbrev pub sheet_most : ℕ
sheet_most = 16384

abbrev pub remaps_most : ℕ
remaps_most = 64

abbrev pub types_most : ℕ
types_most = 256

abbrev pub functions_most : ℕ
functions_most = 64

abbrev pub parameters_most : ℕ
parameters_most = 16

abbrev pub constants_most : ℕ
constants_most = 256

abbrev pub globals_most : ℕ
globals_most = 64

abbrev pub members_most : ℕ
members_most = 64

-- ---- over the sheet

-- "1 under 6 bytes or over 16,384. 2 version byte not 1. 3 a flag bit above bit 1."
unfoldable pub header_test : List ℕ → ℕ
header_test s =
    unless (within sheet_least sheet_most (length s)) 1
    (unless (eqb (version_of s) 1) 2
    (unless (ltb (flags_of s) 4) 3 0))

-- ---- what has been read of the sheet so far

pub record Seen : Type 0 where
  pub rank : ℕ
  pub available : Option (List ℕ)
  pub remaps : List Remap
  pub types : List TypeEntry
  pub functions : List Function
  pub constants : List Expression
  pub globals : List Global

abbrev pub nothing : Seen
nothing = record { rank = 0; available = None; remaps = []; types = []; functions = []; constants = []; globals = [] }

unfoldable pub add : Seen → ℕ → Entry → Seen
add n r (available cs) = record { rank = r; available = Some cs; remaps = n.remaps; types = n.types; functions = n.functions; constants = n.constants; globals = n.globals }
add n r (remap m) = record { rank = r; available = n.available; remaps = n.remaps ++ m ∷ []; types = n.types; functions = n.functions; constants = n.constants; globals = n.globals }
add n r (type t) = record { rank = r; available = n.available; remaps = n.remaps; types = n.types ++ t ∷ []; functions = n.functions; constants = n.constants; globals = n.globals }
add n r (function f) = record { rank = r; available = n.available; remaps = n.remaps; types = n.types; functions = n.functions ++ f ∷ []; constants = n.constants; globals = n.globals }
add n r (constant c) = record { rank = r; available = n.available; remaps = n.remaps; types = n.types; functions = n.functions; constants = n.constants ++ c ∷ []; globals = n.globals }
add n r (global g) = record { rank = r; available = n.available; remaps = n.remaps; types = n.types; functions = n.functions; constants = n.constants; globals = n.globals ++ g ∷ [] }

-- the record's entry is added
unfoldable pub add_record : Seen → Record → Seen
add_record n r = add n (tag_rank r.tag) (entry_of r).value

-- ---- 4 to 7: the record's place

-- "4 fewer than 2 bytes left for a length, length 0, or length past the sheet's end"
unfoldable pub no_record : List ℕ → Bool
no_record rest = not (leb 2 (length rest) && (ltb 0 (u16_at rest 0) && leb (2 + u16_at rest 0) (length rest)))

abbrev pub present : {A : Type 0} → Option A → Bool
present None = false
present (Some a) = true

-- "6 a rank lower than the record before, or a second Available"
abbrev pub out_of_order : Seen → ℕ → Bool
out_of_order n r = ltb r n.rank || (eqb r 1 && present n.available)

-- "7 one too many of its kind"
abbrev pub room : Seen → ℕ → Bool
room n r =
    pick (eqb r 2) (ltb (length n.remaps) remaps_most)
    (pick (eqb r 3) (ltb (length n.types) types_most)
    (pick (eqb r 4) (ltb (length n.functions) functions_most)
    (pick (eqb r 5) (ltb (length n.constants) constants_most)
    (pick (eqb r 6) (ltb (length n.globals) globals_most) true))))

unfoldable pub place_test : Seen → ℕ → ℕ
place_test n t =
    unless (ltb 0 (tag_rank t)) 5
    (unless (not (out_of_order n (tag_rank t))) 6
    (unless (room n (tag_rank t)) 7 0))

-- ---- 8 to 11: the record's fields, each test over the whole record

-- "an unknown literal form is 10 before this"
abbrev pub form_known : Record → Bool
form_known r = pick (eqb r.tag 64) (leb (form_of r.body) 4) true

-- "9 a name is not UTF-8 (RFC 3629) or holds a zero byte": every name of the record, debug names or not
unfoldable pub member_names : List Member → List Name
member_names [] = []
member_names (m ∷ ms) = m.name ∷ member_names ms

abbrev pub inner_names : TypeInner → List Name
inner_names (Scalar k w) = []
inner_names (Vector n k w) = []
inner_names (Matrix c r w) = []
inner_names (Atomic k w) = []
inner_names (Pointer b s a) = []
inner_names (ValuePointer n k w s a) = []
inner_names (Array b n d) = []
inner_names (Struct n ms) = member_names ms
inner_names (Image d a c x y) = []
inner_names (Sampler c) = []
inner_names AccelerationStructure = []
inner_names RayQuery = []
inner_names (BindingArray b n) = []

abbrev pub names_of : Entry → List Name
names_of (available cs) = []
names_of (remap m) = []
names_of (type t) = t.name ∷ inner_names t.inner
names_of (function f) = []
names_of (constant c) = []
names_of (global g) = g.name ∷ []

-- "Kind: 0 Sint, 1 Uint, 2 Float, 3 Bool. Widths in bytes: integers 1, 2, 4, 8; Float and matrices 4, 8; Bool 1."; paper 1: "Float
-- and matrix width 2 become allowed values in types"
abbrev pub float_width : ℕ → Bool
float_width w = among w (2 ∷ 4 ∷ 8 ∷ [])

unfoldable pub scalar_fits : ℕ → ℕ → Bool
scalar_fits k w =
    pick (leb k 1) (among w (1 ∷ 2 ∷ 4 ∷ 8 ∷ []))
    (pick (eqb k 2) (float_width w) (eqb k 3 && eqb w 1))

-- "Vector sizes 2 to 4."
abbrev pub size_fits : ℕ → Bool
size_fits n = within 2 4 n

-- "then an access byte (bit 0 load, bit 1 store; 0 unless Storage)"
unfoldable pub space_fits : ℕ → ℕ → Bool
space_fits s a = leb s push_constant_space && leb a (pick (eqb s storage_space) 3 0)

-- "Image classes: 0 sampled (kind 0 to 2, multi 0 or 1), 1 depth (0, multi), 2 storage (format 0 to 39 .., access 0 to 3)"
unfoldable pub class_fits : ℕ → ℕ → ℕ → Bool
class_fits c x y =
    pick (eqb c 0) (leb x 2 && leb y 1)
    (pick (eqb c 1) (eqb x 0 && leb y 1)
    (eqb c 2 && (leb x 39 && leb y 3)))

-- "10 a field outside its values"
abbrev pub inner_fits : TypeInner → Bool
inner_fits (Scalar k w) = scalar_fits k w
inner_fits (Vector n k w) = size_fits n && scalar_fits k w
inner_fits (Matrix c r w) = size_fits c && (size_fits r && float_width w)
inner_fits (Atomic k w) = scalar_fits k w
inner_fits (Pointer b s a) = space_fits s a
inner_fits (ValuePointer n k w s a) = (eqb n 0 || size_fits n) && (scalar_fits k w && space_fits s a)
inner_fits (Array b n d) = true
inner_fits (Struct n ms) = leb (length ms) members_most
inner_fits (Image d a c x y) = leb d 3 && (leb a 1 && class_fits c x y)
inner_fits (Sampler c) = leb c 1
inner_fits AccelerationStructure = true
inner_fits RayQuery = true
inner_fits (BindingArray b n) = true

abbrev pub literal_fits : Literal → Bool
literal_fits (f64 n) = true
literal_fits (f32 n) = true
literal_fits (u32 n) = true
literal_fits (i32 n) = true
literal_fits (boolean n) = leb n 1

abbrev pub expression_fits : Expression → Bool
expression_fits (Value l) = literal_fits l
expression_fits (Alias c) = true
expression_fits (ZeroValue t) = true
expression_fits (Compose t cs) = true
expression_fits (Splat n c) = size_fits n

-- "bound 0 or 1, group, binding (32 bits each, 0 if unbound)"
unfoldable pub binding_fits : Global → Bool
binding_fits g = leb g.bound 1 && (eqb g.bound 1 || (eqb g.group 0 && eqb g.binding 0))

abbrev pub values_fit : Entry → Bool
values_fit (available cs) = true
values_fit (remap m) = ltb 0 m.size
values_fit (type t) = inner_fits t.inner
values_fit (function f) = leb (length f.parameters) parameters_most
values_fit (constant c) = expression_fits c
values_fit (global g) = space_fits g.space g.access && binding_fits g

-- "References are 16-bit indexes from 0 within types, constants or globals": the types that a record names
unfoldable pub member_types : List Member → List ℕ
member_types [] = []
member_types (m ∷ ms) = m.type ∷ member_types ms

abbrev pub inner_types : TypeInner → List ℕ
inner_types (Scalar k w) = []
inner_types (Vector n k w) = []
inner_types (Matrix c r w) = []
inner_types (Atomic k w) = []
inner_types (Pointer b s a) = b ∷ []
inner_types (ValuePointer n k w s a) = []
inner_types (Array b n d) = b ∷ []
inner_types (Struct n ms) = member_types ms
inner_types (Image d a c x y) = []
inner_types (Sampler c) = []
inner_types AccelerationStructure = []
inner_types RayQuery = []
inner_types (BindingArray b n) = b ∷ []

abbrev pub expression_types : Expression → List ℕ
expression_types (Value l) = []
expression_types (Alias c) = []
expression_types (ZeroValue t) = t ∷ []
expression_types (Compose t cs) = t ∷ []
expression_types (Splat n c) = []

-- an index where there is one: "16-bit init (65,535 none)", "65,535 for void"
abbrev pub init_list : Option ℕ → List ℕ
init_list None = []
init_list (Some c) = c ∷ []

abbrev pub types_named : Entry → List ℕ
types_named (available cs) = []
types_named (remap m) = []
types_named (type t) = inner_types t.inner
types_named (function f) = init_list f.result ++ f.parameters
types_named (constant c) = expression_types c
types_named (global g) = g.type ∷ []

-- the constants that a record names
abbrev pub expression_constants : Expression → List ℕ
expression_constants (Value l) = []
expression_constants (Alias c) = c ∷ []
expression_constants (ZeroValue t) = []
expression_constants (Compose t cs) = cs
expression_constants (Splat n c) = c ∷ []

abbrev pub constants_named : Entry → List ℕ
constants_named (available cs) = []
constants_named (remap m) = []
constants_named (type t) = []
constants_named (function f) = []
constants_named (constant c) = expression_constants c
constants_named (global g) = init_list g.init

abbrev pub below : ℕ → List ℕ → Bool
below n xs = every (λ (x : ℕ). ltb x n) xs

-- "11 a reference to an entry not already read"
abbrev pub read_already : Seen → Entry → Bool
read_already n e = below (length n.types) (types_named e) && below (length n.constants) (constants_named e)

-- ---- 12: "a type equal to an earlier one in name and all fields, or a remap of a group and binding already remapped"

-- A record that passed test 8 is its fields, one after the other, each in its one form: so two types are equal in name
-- and all fields exactly if their tags and bodies are equal (proved: `test_12` in proofs/Same.antt).
unfoldable pub same_bytes : List ℕ → List ℕ → Bool
same_bytes [] [] = true
same_bytes [] (y ∷ ys) = false
same_bytes (x ∷ xs) [] = false
same_bytes (x ∷ xs) (y ∷ ys) = pick (eqb x y) (same_bytes xs ys) false

unfoldable pub same_record : Record → Record → Bool
same_record r q = eqb r.tag q.tag && same_bytes r.body q.body

unfoldable pub type_read : Record → List TypeEntry → Bool
type_read r [] = false
type_read r (t ∷ ts) = pick (same_record t.source r) true (type_read r ts)

unfoldable pub remap_read : Remap → List Remap → Bool
remap_read m [] = false
remap_read m (q ∷ qs) = pick (eqb q.group m.group && eqb q.binding m.binding) true (remap_read m qs)

abbrev pub repeated : Seen → Entry → Bool
repeated n (available cs) = false
repeated n (remap m) = remap_read m n.remaps
repeated n (type t) = type_read t.source n.types
repeated n (function f) = false
repeated n (constant c) = false
repeated n (global g) = false

-- ---- tests 8 to 12, and 5 to 12

unfoldable pub entry_test : Seen → Record → Entry → ℕ → ℕ
entry_test n r e end =
    unless (form_known r) 10
    (unless (eqb end (length r.body)) 8
    (unless (every name_fits (names_of e)) 9
    (unless (values_fit e) 10
    (unless (read_already n e) 11
    (unless (not (repeated n e)) 12 0)))))

unfoldable pub reading_test : Seen → Record → ℕ
reading_test n r = first (place_test n r.tag) (let f = entry_of r in entry_test n r f.value f.end)

-- ---- the records ("Then each record in sheet order, the first refused record deciding")

-- what is judged: refused by a number, or fit with what it came to
pub data Judged (S : Type 0) : Type 0 where
  refused : ℕ → Judged S
  fit : S → Judged S

abbrev pub judge : {S : Type 0} → ℕ → Judged S → Judged S
judge zero later = later
judge (suc n) later = refused (suc n)

-- The records from the front of what is left on, each tested in the state that those before it left, then added to it.
-- Each takes three bytes at least, so the fuel, the length of what is left, is never used up.
unfoldable pub records : {S : Type 0} → (S → Record → ℕ) → (S → Record → S) → ℕ → List ℕ → S → Judged S
records test step zero rest s = fit s
records test step (suc fuel) rest s =
    let r = record_at rest in
    let here = test s r in
    let later = records test step fuel (after_record rest) (step s r) in
    pick (eqb (length rest) 0) (fit s) (pick (no_record rest) (refused 4) (judge here later))
