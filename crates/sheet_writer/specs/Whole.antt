-- What a sheet comes to before its bound is looked at: the definition's loop over its records, behind tests 1 to 3.
use Rattle.std.specs.Prelude.{ℕ, ◌+◌, ◌*◌, ◌≤◌, ◌≡◌, List, ◌⊎◌, length, drop, get_or, true}
use Rattle.definition.specs.Sheet.{Function, header_length, start_of, flags_of, options_of, global}
use Rattle.definition.specs.Tests.{Seen, values_fit, Judged, fit, refused, judge, header_test, records, sheet_most, types_most, functions_most, constants_most, globals_most}
use Rattle.definition.specs.Operations.{Progress, begin, record_test, declare_record, no_global}
use Rattle.records.specs.declared.Counts.{Counts}
use Rattle.records.specs.Places.{Places, seen_of, Ample, WithinLimits}
use Rattle.sheet.specs.declared.holding.Holding.{Holding}
use Rattle.sheet.specs.Holding.{places_in}
use Rattle.writer.specs.declared.Writer.{Writer}
use Rattle.writer.specs.Cost.{no_cost}
use Rattle.writer.specs.Held.{Held, Room}
use Rattle.std.specs.Prelude.{Result, Ok, Err}
use Rattle.refusals.specs.declared.Refusal.{Refusal}
use Rattle.refusals.specs.Numbers.{number_of}

-- the records, tested and declared in the sheet's order
abbrev pub records_of : List ℕ → Judged Progress
records_of s = records record_test (declare_record (options_of (flags_of s))) (length s) (drop header_length s) (begin (start_of s))

abbrev pub before_bound : List ℕ → Judged Progress
before_bound s = judge (header_test s) (records_of s)

-- as many records as a sheet can have declared; a function record counts as two, since it may declare void too
abbrev pub records_most : ℕ
records_most = types_most + 2 * functions_most + constants_most + globals_most

-- what the writer is lent is enough for the sheet: a record takes three bytes at least
pub record Capacity (s : List ℕ) (w : Writer) (m : List ℕ) : Type 0 where
  pub for_bytes : length s ≤ sheet_most → length s ≤ w.used.bytes
  pub for_records : (length s ≤ 3 * w.used.records) ⊎ (records_most ≤ w.used.records)
  pub tables : 20 * w.used.records + w.used.bytes ≤ length w.tables.now
  pub sections : 7 * w.used.bytes ≤ length w.sections.now
  pub memo : (j : ℕ) → get_or m j 0 ≡ 0
  pub memo-length : types_most ≤ length m

-- the globals that were read passed test 10
abbrev pub GlobalsFit : Seen → Type 0
GlobalsFit n = (i : ℕ) → values_fit (global (get_or n.globals i no_global)) ≡ true

-- what was read stands at the places, and the state that the definition comes to is held
pub record SheetFits (s : List ℕ) (p : Places) (w : Writer) (k : Counts) (v : Writer) : Type 0 where
  pub progress : Progress
  pub same : fit progress ≡ before_bound s
  pub functions : List Function
  pub seen : progress.seen ≡ seen_of s p k functions
  pub globals : GlobalsFit (seen_of s p k functions)
  pub held : Held v progress.state
  pub ample : Ample p
  pub few : WithinLimits k
  pub room : Room no_cost v
  pub size : v.used.bytes ≡ w.used.bytes

-- the answer is the definition's
abbrev pub SheetWritten : List ℕ → Holding → Writer → Result (Unit {0}) Refusal → Writer → Type 0
SheetWritten s g w (Err r) v = refused (number_of r) ≡ before_bound s
SheetWritten s g w (Ok u) v = SheetFits s (places_in g) w g.counts v
