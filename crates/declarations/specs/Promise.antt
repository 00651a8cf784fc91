-- The promises of the three operations: of each answer and of the buffer which definition they equal, and the mission's demands.
-- Document 01: "For each operation the promise says of each result which definition it equals, buffer words and refusals counted;
-- where these papers leave a choice to the program, it says that". They leave none: `same` is an equation with the definition, which
-- has one answer, one count, one bound and one list of words for each sheet and buffer.
use Rattle.std.specs.Prelude.{ℕ, ◌<◌, ◌≡◌, Bool, ◌⊎◌, List}
use Rattle.definition.specs.Answered.{Whole, Unchanged, Refusal}
use Rattle.definition.specs.Operations.{Written, declare, check, Wraps, wrapped}
use Rattle.definition.specs.Operations.{Verdict as MeantVerdict, Wrapping as MeantWrapping}
use Rattle.definition.specs.WellDeclared.{Accepted}
use Rattle.std.specs.Prelude.{Result, Ok, Err}
use Rattle.refusals.specs.declared.Refusal.{Refusal as RefusedBy}
use Rattle.refusals.specs.Numbers.{number_of}
use Rattle.module_layout.specs.declared.Module.{Module}
use Rattle.module_layout.specs.Finished.{answer_of, declared_as}

-- ---- Declare: the sheet, the buffer before the call, the answer, the buffer after it

pub record DeclarePromise (s before : List ℕ) (r : Result Module RefusedBy) (after : List ℕ) : Type 0 where
  -- demand 1: the whole module and the rest of the buffer as it was, or one of 1 to 16 and no word changed
  pub answered : Whole s before (declared_as r after) ⊎ Unchanged before (declared_as r after)
  -- demand 2: answer, count, bound and every word are the definition's
  pub same : declared_as r after ≡ declare s before
  -- demand 3, undivided, of the words that stand in the buffer
  pub accepted : (n bound : ℕ) → answer_of r ≡ Written n bound → Accepted s before n bound
  -- a word count has 32 bits
  pub counted : (n bound : ℕ) → answer_of r ≡ Written n bound → n < 4294967296

-- ---- Check

-- document 01's case and number for each answer
abbrev pub verdict_as : Result (Unit {0}) RefusedBy → MeantVerdict
verdict_as (Ok u) = MeantVerdict.Fit
verdict_as (Err r) = MeantVerdict.Refused (number_of r)

pub record CheckPromise (s : List ℕ) (r : Result (Unit {0}) RefusedBy) : Type 0 where
  -- Fit, or one of 1 to 15
  pub answered : (verdict_as r ≡ MeantVerdict.Fit) ⊎ ((n : ℕ) × Refusal n × (verdict_as r ≡ MeantVerdict.Refused n))
  -- the definition's
  pub same : verdict_as r ≡ check s

-- ---- Wrapped

abbrev pub wrapping_as : Result Bool RefusedBy → MeantWrapping
wrapping_as (Ok y) = MeantWrapping.Wraps y
wrapping_as (Err r) = MeantWrapping.Refused (number_of r)

pub record WrappedPromise (s : List ℕ) (index : ℕ) (r : Result Bool RefusedBy) : Type 0 where
  -- yes or no, or one of 1 to 15, or 17
  pub answered : ((y : Bool) × (wrapping_as r ≡ Wraps y)) ⊎ ((n : ℕ) × (Refusal n ⊎ (n ≡ 17)) × (wrapping_as r ≡ MeantWrapping.Refused n))
  -- the definition's
  pub same : wrapping_as r ≡ wrapped s index
