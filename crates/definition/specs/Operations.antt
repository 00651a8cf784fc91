-- The operations: Check, Declare and Wrapped, each a function of the sheet (and of the word buffer, or the index).
use Rattle.std.specs.Prelude.{None}
use Rattle.std.specs.Prelude.{ℕ, Bool, List, leb, ltb, length, drop, get_or}
use Rattle.definition.specs.Choice.{pick, first}
use Rattle.definition.specs.Instructions.{put, fits}
use Rattle.definition.specs.Sheet.{Record, Global, entry_of, start_of, flags_of, options_of, header_length, Options}
use Rattle.definition.specs.Tests.{Seen, nothing, Judged, refused, fit, judge, header_test, reading_test, add_record, records}
use Rattle.definition.specs.State.{State, empty, bound_of, module_words}
use Rattle.definition.specs.Rules.{declare_entry, needs_wrapper}
use Rattle.definition.specs.Unfit.{fitness_test}

-- ---- the records of a sheet, tested and declared in its order

-- what was read, and what the rules have come to
pub record Progress : Type 0 where
  pub seen : Seen
  pub state : State

-- "on an empty `Writer`, counter at start"
abbrev pub begin : ℕ → Progress
begin start = record { seen = nothing; state = empty start }

-- tests 5 to 14 of a record
unfoldable pub record_test : Progress → Record → ℕ
record_test p r = first (reading_test p.seen r) (fitness_test p.seen p.state (entry_of r).value)

unfoldable pub declare_record : Options → Progress → Record → Progress
declare_record o p r = record { seen = add_record p.seen r; state = declare_entry o p.seen (entry_of r).value p.state }

-- "15 the bound would pass 4,194,303 (the specification's limit)"
abbrev pub bound_most : ℕ
bound_most = 4194303

abbrev pub bound_test : Judged Progress → Judged Progress
bound_test (refused n) = refused n
bound_test (fit p) = pick (leb (bound_of p.state) bound_most) (fit p) (refused 15)

-- the whole of a sheet: refused by one of 1 to 15, or fit with what the rules come to
unfoldable pub judged : List ℕ → Judged Progress
judged s =
    let later = records record_test (declare_record (options_of (flags_of s))) (length s) (drop header_length s) (begin (start_of s)) in
    bound_test (judge (header_test s) later)

-- ---- "Check takes a sheet and answers Fit or one number"

pub data Verdict : Type 0 where
  Fit : Verdict
  Refused : ℕ → Verdict

abbrev pub verdict_of : Judged Progress → Verdict
verdict_of (refused n) = Refused n
verdict_of (fit p) = Fit

unfoldable pub check : List ℕ → Verdict
check s = verdict_of (judged s)

-- ---- "Declare takes a sheet and a word buffer. It refuses as Check, then 16 when the buffer is shorter than the module. It
-- answers Written with word count and bound; words past the count keep their old values. A refusal changes no word."

pub data Answer : Type 0 where
  Written : ℕ → ℕ → Answer
  Refused : ℕ → Answer

pub record Declared : Type 0 where
  pub answer : Answer
  pub buffer : List ℕ

abbrev pub unchanged : ℕ → List ℕ → Declared
unchanged n b = record { answer = Answer.Refused n; buffer = b }

abbrev pub write_module : List ℕ → ℕ → List ℕ → Declared
write_module ws bound b =
    pick (fits ws b)
    (record { answer = Written (length ws) bound; buffer = put ws b })
    (unchanged 16 b)

abbrev pub declared_of : List ℕ → Judged Progress → Declared
declared_of b (refused n) = unchanged n b
declared_of b (fit p) = write_module (module_words p.state) (bound_of p.state) b

unfoldable pub declare : List ℕ → List ℕ → Declared
declare s b = declared_of b (judged s)

-- ---- "Wrapped takes a sheet and a global's index. It refuses as Check, then 17 when there is no such global. Otherwise yes or no."

pub data Wrapping : Type 0 where
  Wraps : Bool → Wrapping
  Refused : ℕ → Wrapping

abbrev pub no_global : Global
no_global = record { name = None; type = 0; space = 0; access = 0; bound = 0; group = 0; binding = 0; init = None }

abbrev pub wrapping_of : ℕ → Judged Progress → Wrapping
wrapping_of k (refused n) = Wrapping.Refused n
wrapping_of k (fit p) =
    pick (ltb k (length p.seen.globals))
    (Wraps (needs_wrapper p.seen.types (get_or p.seen.globals k no_global)))
    (Wrapping.Refused 17)

unfoldable pub wrapped : List ℕ → ℕ → Wrapping
wrapped s k = wrapping_of k (judged s)
