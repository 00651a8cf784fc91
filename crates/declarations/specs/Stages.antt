-- What the stages of an operation hand on.
use Rattle.std.specs.Prelude.{ℕ, ◌+◌, ◌*◌, ◌≤◌, ◌<◌, ◌≡◌, ◌⊎◌, true, List, map, eqb, length, get_or, take}
use Rattle.definition.specs.Choice.{pick}
use Rattle.definition.specs.Sheet.{global}
use Rattle.definition.specs.Tests.{values_fit, fit, sheet_most}
use Rattle.definition.specs.Operations.{Progress, unchanged, bound_test, wrapping_of}
use Rattle.definition.specs.Operations.{Wrapping as MeantWrapping}
use Rattle.records.specs.Places.{types_from, global_from}
use Rattle.sheet_writer.specs.Whole.{records_most}
use Rattle.std.specs.Prelude.{Bool, Result, Ok, Err}
use Rattle.sheet.specs.declared.holding.Holding.{Holding}
use Rattle.refusals.specs.declared.Refusal.{Refusal}
use Rattle.refusals.specs.Numbers.{number_of}
use Rattle.writer.specs.declared.Writer.{Writer}
use Rattle.module_layout.specs.declared.Module.{Module}
use Rattle.module_layout.specs.Finished.{declared_as, Roomy, Finished}
use Rattle.declarations.specs.declared.Answers.{Answers}
use Rattle.declarations.specs.Promise.{wrapping_as, DeclarePromise, WrappedPromise}

-- so many numbers of tables and words of sections are enough for the sheet
pub record Scratch (s : List ℕ) (nrecords nbytes numbers words : ℕ) : Type 0 where
  pub for_bytes : length s ≤ sheet_most → length s ≤ nbytes
  pub for_records : (length s ≤ 3 * nrecords) ⊎ (records_most ≤ nrecords)
  pub tables : 20 * nrecords + nbytes ≤ numbers
  pub sections : 7 * nbytes ≤ words
  pub few : nbytes ≤ 65536

-- the scratch that is lent is
abbrev pub Lent : List ℕ → Writer → Type 0
Lent s w = Scratch s w.used.records w.used.bytes (length w.tables.now) (length w.sections.now)

-- where the records are declared, the sections have room
abbrev pub Roomed : Writer → Result (Unit {0}) Refusal → Type 0
Roomed w (Err r) = Unit
Roomed w (Ok u) = Roomy w.used w.sections.now

-- a refusal changes no word; else the last stage is done
abbrev pub Ended : Writer → Result (Unit {0}) Refusal → List ℕ → Result Module Refusal → List ℕ → Type 0
Ended w (Err r) before a after = declared_as a after ≡ unchanged (number_of r) before
Ended w (Ok u) before a after = Finished w before a after

-- what a Declare into too short a buffer says of Check
abbrev pub verdict_from : Result Module Refusal → Result (Unit {0}) Refusal
verdict_from (Ok m) = Ok tt
verdict_from (Err r) = pick (eqb (number_of r) 16) (Ok tt) (Err r)

-- where the records are read, the types and the globals stand at their places, and each global passed test 10
pub record PlacesStand (s ts gs : List ℕ) (types globals : ℕ) : Type 0 where
  pub in_types : types ≤ length ts
  pub in_globals : globals ≤ length gs
  pub fits : (i : ℕ) → i < globals → values_fit (global (global_from s (get_or gs i 0))) ≡ true

abbrev pub Standing : Holding → Result (Unit {0}) Refusal → Type 0
Standing h (Err r) = Unit
Standing h (Ok u) = PlacesStand h.sheet.now h.types.now h.globals.now h.counts.types h.counts.globals

-- the answer is the definition's, of whatever it comes to with these types, these globals and this last id
abbrev pub WrappedAs : Holding → Writer → Result (Unit {0}) Refusal → ℕ → Result Bool Refusal → Type 0
WrappedAs h w (Err q) index r = wrapping_as r ≡ MeantWrapping.Refused (number_of q)
WrappedAs h w (Ok u) index r = (p : Progress) → p.seen.types ≡ types_from h.sheet.now h.types.now h.counts.types → p.seen.globals ≡ map (global_from h.sheet.now) (take h.counts.globals h.globals.now)
    → w.used.idgen.last ≡ p.state.last → wrapping_as r ≡ wrapping_of index (bound_test (fit p))

-- both answers of one reading keep their promises
pub record Answered (s before : List ℕ) (index : ℕ) (r : Answers) (after : List ℕ) : Type 0 where
  pub declares : DeclarePromise s before r.answer after
  pub wraps : WrappedPromise s index r.wrapping
