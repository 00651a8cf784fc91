-- What the program holds of a sheet that it has read in part: places of records, and counts. What was read is found
-- again at the places, so that nothing has to be said of how the two hang together.
use Rattle.std.specs.Prelude.{ℕ, ◌+◌, ◌≤◌, List, map, length, take, drop}
use Rattle.std.specs.Prelude.{Option, Some, None}
use Rattle.definition.specs.Bytes.{name_end}
use Rattle.definition.specs.Sheet.{Record, record_at, TypeEntry, type_entry, type_fields, Function, Expression, constant_fields, Global, global_fields, Remap, remap_fields, available_fields}
use Rattle.definition.specs.Tests.{Seen, remaps_most, types_most, functions_most, constants_most, globals_most}
use Rattle.records.specs.declared.Counts.{Counts}
use Rattle.records.specs.declared.Earlier.{Earlier}

-- the record at a place of the sheet, and the entry that it is, by its kind
abbrev pub record_from : List ℕ → ℕ → Record
record_from s at = record_at (drop at s)

-- what is available, of Available's place
abbrev pub available_from : List ℕ → Option ℕ → Option (List ℕ)
available_from s None = None
available_from s (Some at) = Some (available_fields (record_from s at).body).value

abbrev pub remap_from : List ℕ → ℕ → Remap
remap_from s at = (remap_fields (record_from s at).body).value

-- a type, of its record
abbrev pub type_of_record : Record → TypeEntry
type_of_record r = type_entry r (type_fields r.tag r.body (name_end r.body 0)).value

abbrev pub type_from : List ℕ → ℕ → TypeEntry
type_from s at = type_of_record (record_from s at)

-- the first n types, of their places
abbrev pub types_from : List ℕ → List ℕ → ℕ → List TypeEntry
types_from s types n = map (type_from s) (take n types)

-- the types, of the places of those that were read before
abbrev pub types_in : Earlier → List TypeEntry
types_in e = map (type_from e.sheet.now) e.places.now

-- the remaps, of the places of those that were read before
abbrev pub remaps_in : Earlier → List Remap
remaps_in e = map (remap_from e.sheet.now) e.places.now

abbrev pub constant_from : List ℕ → ℕ → Expression
constant_from s at = (constant_fields (record_from s at).tag (record_from s at).body).value

abbrev pub global_from : List ℕ → ℕ → Global
global_from s at = (global_fields (record_from s at).body (name_end (record_from s at).body 0)).value

-- the slices that the caller lends: where the records of each kind stand. Behind as many places as there can be types, `types`
-- has a hash of each type (`sheet`). No record names a function, so that no function is looked for again, and no place of one kept
pub record Places : Type 0 where
  pub remaps : List ℕ
  pub types : List ℕ
  pub constants : List ℕ
  pub globals : List ℕ

abbrev pub places_of : List ℕ → List ℕ → List ℕ → List ℕ → Places
places_of r t c g = record { remaps = r; types = t; constants = c; globals = g }

-- what has been read of the sheet s. The functions fs are given: the program holds only how many they are, and no test looks at
-- more of them than that
abbrev pub seen_of : List ℕ → Places → Counts → List Function → Seen
seen_of s p k fs = record {
  rank = k.rank;
  available = available_from s k.available;
  remaps = map (remap_from s) (take k.remaps p.remaps);
  types = types_from s p.types k.types;
  functions = fs;
  constants = map (constant_from s) (take k.constants p.constants);
  globals = map (global_from s) (take k.globals p.globals);
}

-- the slices hold as many places as a sheet can fill, and as many hashes
pub record Ample (p : Places) : Type 0 where
  pub remaps : remaps_most ≤ length p.remaps
  pub types : types_most + types_most ≤ length p.types
  pub constants : constants_most ≤ length p.constants
  pub globals : globals_most ≤ length p.globals

-- no more has been read of any kind than a sheet may have
pub record WithinLimits (k : Counts) : Type 0 where
  pub remaps : k.remaps ≤ remaps_most
  pub types : k.types ≤ types_most
  pub functions : k.functions ≤ functions_most
  pub constants : k.constants ≤ constants_most
  pub globals : k.globals ≤ globals_most
