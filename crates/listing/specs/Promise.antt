-- The promise of paper 3's operation: which definition its answer and both buffers equal.
use Rattle.std.specs.Prelude.{ℕ, ◌≡◌, ◌⊎◌, List, take, Result, Ok, Err}
use Rattle.definition.specs.Operations.{Written, declare}
use Rattle.definition.specs.WellDeclared.{IsBytes}
use Rattle.definition.specs.Listing.{Relisted, list, join, HasList, WholeList, Unlisted}
use Rattle.definition.specs.Listing.{Listing as Meant}
use Rattle.refusals.specs.declared.Refusal.{Refusal}
use Rattle.refusals.specs.Numbers.{number_of}

-- the paper's case and number for each answer
abbrev pub listing_as : Result ℕ Refusal → Meant
listing_as (Ok n) = Meant.Listed n
listing_as (Err r) = Meant.Refused (number_of r)

-- the answer, and the second buffer as it is left
abbrev pub relisted_as : Result ℕ Refusal → List ℕ → Relisted
relisted_as r b = record { answer = listing_as r; buffer = b }

-- the words, the second buffer before the call, the answer, the second buffer after it; the first is lent to be read alone
pub record ListPromise (ws before : List ℕ) (r : Result ℕ Refusal) (after : List ℕ) : Type 0 where
  -- the whole list and the rest of the buffer as it was, or one of 18, 19, 20 and 16 and no word changed
  pub answered : WholeList ws before (relisted_as r after) ⊎ Unlisted before (relisted_as r after)
  -- answer and every word are the definition's
  pub same : relisted_as r after ≡ list ws before
  -- "the list joined again is the module"
  pub joins : (n : ℕ) → listing_as r ≡ Meant.Listed n → join (take n after) ≡ ws
  -- "It takes every module that Declare writes": what a Declare left at a buffer's front has a list
  pub takes : (s b : List ℕ) → IsBytes s → (n bound : ℕ) → (declare s b).answer ≡ Written n bound → ws ≡ take n (declare s b).buffer → HasList ws
