-- A record of its tag and its body, and tests 8 to 11 of it.
use Rattle.std.specs.Prelude.{ℕ, ◌&&◌, List, eqb, length}
use Rattle.definition.specs.Choice.{unless, every}
use Rattle.definition.specs.Utf8.{name_fits}
use Rattle.definition.specs.Sheet.{Record, Entry, Fields, TypeInner, Global, entry_of, type_fields, global_fields}
use Rattle.fields.specs.declared.named.Named.{Named}
use Rattle.definition.specs.Tests.{form_known, names_of, values_fit, types_named, constants_named, below}

abbrev pub record_of : ℕ → List ℕ → Record
record_of t b = record { tag = t; body = b }

-- the fields of a type of tag t and of a global, behind their names
abbrev pub type_behind : ℕ → Named → Fields TypeInner
type_behind t b = type_fields t b.body.now b.end

abbrev pub global_behind : Named → Fields Global
global_behind b = global_fields b.body.now b.end

-- tests 8 to 11 in document 01's order, where so many types and constants were read: the fields end where the body ends, and
-- the names, the values and the references fit
abbrev pub tests_of : ℕ → ℕ → List ℕ → Fields Entry → ℕ
tests_of types constants b f =
    unless (eqb f.end (length b)) 8
    (unless (every name_fits (names_of f.value)) 9
    (unless (values_fit f.value) 10
    (unless (below types (types_named f.value) && below constants (constants_named f.value)) 11 0)))

-- the same of a record, a literal's form before all else
unfoldable pub fields_test : ℕ → ℕ → Record → ℕ
fields_test types constants r = unless (form_known r) 10 (tests_of types constants r.body (entry_of r))
