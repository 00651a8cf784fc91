-- Answers as numbers, for callers that know no enum of Rattle's: what each number says, and the promises of the four operations
-- of what the number returned says. A number that says one thing says nothing else, so nothing is lost on the way.
use Rattle.std.specs.Prelude.{ℕ, ◌+◌, ◌*◌, ◌-◌, ◌/◌, ◌%◌, ◌<◌, ◌≡◌, Bool, true, false, ◌⊎◌, List, eqb, ltb, take}
use Rattle.definition.specs.Choice.{pick}
use Rattle.definition.specs.Answered.{Whole, Unchanged, Refusal}
use Rattle.definition.specs.Operations.{Verdict, check, Answer, Written, Declared, declare, Wrapping, Wraps, wrapped}
use Rattle.definition.specs.WellDeclared.{Accepted, IsBytes}
use Rattle.definition.specs.Listing.{Listing, Listed, Relisted, list, join, HasList, WholeList, Unlisted}

-- ---- the numbers that the program makes

abbrev pub verdict_number : Verdict → ℕ
verdict_number Verdict.Fit = 0
verdict_number (Verdict.Refused n) = n

abbrev pub answer_number : Answer → ℕ
answer_number (Answer.Written count bound) = 4294967296 * bound + count % 4294967296
answer_number (Answer.Refused n) = n

abbrev pub wrapping_number : Wrapping → ℕ
wrapping_number (Wrapping.Wraps y) = pick y 257 256
wrapping_number (Wrapping.Refused n) = n

abbrev pub listing_number : Listing → ℕ
listing_number (Listed n) = 256 + n
listing_number (Listing.Refused n) = n

-- a list that is no longer than a buffer has few enough words for that
abbrev pub LengthFits : Listing → Type 0
LengthFits (Listed n) = n < 9223372036854775808
LengthFits (Listing.Refused n) = Unit

-- ---- what a number says

-- 0 is Fit; any other number is that of the refusal
abbrev pub verdict_in : ℕ → Verdict
verdict_in n = pick (eqb n 0) Verdict.Fit (Verdict.Refused n)

-- the bound in the high half, which is not 0, and the word count in the low half; where the high half is 0, the number of the refusal
abbrev pub answer_in : ℕ → Answer
answer_in n = pick (ltb n 4294967296) (Answer.Refused n) (Written (n % 4294967296) (n / 4294967296))

-- 256 is no, 257 is yes; any other number is that of the refusal
abbrev pub wrapping_in : ℕ → Wrapping
wrapping_in n = pick (eqb n 256) (Wraps false) (pick (eqb n 257) (Wraps true) (Wrapping.Refused n))

-- from 256 on what is past it is the list's length; any smaller number is that of the refusal
abbrev pub listing_in : ℕ → Listing
listing_in n = pick (ltb n 256) (Listing.Refused n) (Listed (n - 256))

-- the answer, and the buffer that is left
abbrev pub declared_in : ℕ → List ℕ → Declared
declared_in n after = record { answer = answer_in n; buffer = after }

abbrev pub relisted_in : ℕ → List ℕ → Relisted
relisted_in n after = record { answer = listing_in n; buffer = after }

-- ---- the promises, of the number returned

pub record CheckExported (s : List ℕ) (n : ℕ) : Type 0 where
  -- Fit, or one of 1 to 15
  pub answered : (verdict_in n ≡ Verdict.Fit) ⊎ ((k : ℕ) × Refusal k × (verdict_in n ≡ Verdict.Refused k))
  -- the definition's
  pub same : verdict_in n ≡ check s

-- the sheet, the buffer before the call, the number, the buffer after it
pub record DeclareExported (s before : List ℕ) (n : ℕ) (after : List ℕ) : Type 0 where
  -- demand 1: the whole module and the rest of the buffer as it was, or one of 1 to 16 and no word changed
  pub answered : Whole s before (declared_in n after) ⊎ Unchanged before (declared_in n after)
  -- demand 2: answer, count, bound and every word are the definition's
  pub same : declared_in n after ≡ declare s before
  -- demand 3, undivided, of the words that stand in the buffer
  pub accepted : (count bound : ℕ) → answer_in n ≡ Written count bound → Accepted s before count bound

pub record WrappedExported (s : List ℕ) (index n : ℕ) : Type 0 where
  -- yes or no, or one of 1 to 15, or 17
  pub answered : ((y : Bool) × (wrapping_in n ≡ Wraps y)) ⊎ ((k : ℕ) × (Refusal k ⊎ (k ≡ 17)) × (wrapping_in n ≡ Wrapping.Refused k))
  -- the definition's
  pub same : wrapping_in n ≡ wrapped s index

-- the words, the second buffer before the call, the number, the second buffer after it
pub record ListExported (ws before : List ℕ) (n : ℕ) (after : List ℕ) : Type 0 where
  -- the whole list and the rest of the buffer as it was, or one of 18, 19, 20 and 16 and no word changed
  pub answered : WholeList ws before (relisted_in n after) ⊎ Unlisted before (relisted_in n after)
  -- answer and every word are the definition's
  pub same : relisted_in n after ≡ list ws before
  -- "the list joined again is the module"
  pub joins : (count : ℕ) → listing_in n ≡ Listed count → join (take count after) ≡ ws
  -- "It takes every module that Declare writes": what a Declare left at a buffer's front has a list
  pub takes : (s b : List ℕ) → IsBytes s → (count bound : ℕ) → (declare s b).answer ≡ Written count bound → ws ≡ take count (declare s b).buffer → HasList ws
