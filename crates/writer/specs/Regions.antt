-- Where each table and each section starts in its list, and the section that an instruction goes to.
use Rattle.std.specs.Prelude.{ℕ, ◌+◌, ◌*◌}
use Rattle.definition.specs.Instructions.{Instruction}
use Rattle.definition.specs.State.{State, label, annotate, declare_alone}
use Rattle.writer.specs.declared.Used.{Used}

-- the tables: four types to a record, one row of each other table, an id that carries Block, and a part to a byte; types and nulls
-- are in rows of two numbers, the others of three; types start at 0
abbrev pub literals_at : Used → ℕ
literals_at u = 8 * u.records

abbrev pub nulls_at : Used → ℕ
nulls_at u = 11 * u.records

abbrev pub values_at : Used → ℕ
values_at u = 13 * u.records

abbrev pub composites_at : Used → ℕ
composites_at u = 16 * u.records

abbrev pub blocked_at : Used → ℕ
blocked_at u = 19 * u.records

abbrev pub parts_at : Used → ℕ
parts_at u = 20 * u.records

-- the sections: to a byte of the sheet a capability, a word of names, two of annotations, three of declarations; capabilities start at 0
pub data Section : Type 0 where
  names : Section
  annotations : Section
  declarations : Section

abbrev pub section_at : Section → Used → ℕ
section_at names u = 1 * u.bytes
section_at annotations u = 2 * u.bytes
section_at declarations u = 4 * u.bytes

-- words in use
abbrev pub used : Section → Used → ℕ
used names u = u.names
used annotations u = u.annotations
used declarations u = u.declarations

-- n words more in use
abbrev pub more : Section → Used → ℕ → Used
more names u n = record u { names = u.names + n }
more annotations u n = record u { annotations = u.annotations + n }
more declarations u n = record u { declarations = u.declarations + n }

-- what the definition does with an instruction of the section
abbrev pub add_to : Section → Instruction → State → State
add_to names = label
add_to annotations = annotate
add_to declarations = declare_alone
