-- What is promised of one instruction's list, and of the walk over all of them.
use Rattle.std.specs.Prelude.{ℕ, suc, ◌+◌, ◌≤◌, ◌<◌, ◌≡◌, true, List, length, get_or, drop, Result}
use Rattle.definition.specs.Instructions.{plain, type_op, value_op}
use Rattle.definition.specs.Tests.{Judged, refused, fit}
use Rattle.definition.specs.Listing.{Listing, is_written, list_one, list_from}
use Rattle.refusals.specs.declared.Refusal.{Refusal}
use Rattle.spirv.specs.Sections.{splice}
use Rattle.listing.specs.declared.forms.ResultId.{ResultId}
use Rattle.listing.specs.declared.forms.ResultId.TheVariants.{Missing, First, BehindType}
use Rattle.listing.specs.Promise.{listing_as}

-- how many words stand behind the first one at least, by where the result id stands
abbrev pub least_body : ResultId → ℕ
least_body Missing = 0
least_body First = 1
least_body BehindType = 2

-- the list of an instruction, by the same and the words behind its first one
abbrev pub list_as : ResultId → ℕ → List ℕ → List ℕ
list_as Missing o b = list_one (plain o b)
list_as First o b = list_one (type_op o (get_or b 0 0) (drop 1 b))
list_as BehindType o b = list_one (value_op o (get_or b 0 0) (get_or b 1 0) (drop 2 b))

-- what tests 19 and 20 leave of an opcode and the words behind its first one
pub record ListedWith (o : ℕ) (b : List ℕ) : Type 0 where
  pub written : is_written o (suc (length b)) ≡ true
  pub few : length b < 65535

-- next is the place behind the words; where that lies within the buffer, they were put
pub record PutAt (to : ℕ) (xs before after : List ℕ) (next : ℕ) : Type 0 where
  pub place : next ≡ to + length xs
  pub put : next ≤ length before → after ≡ splice before to xs

-- the refusal, or how long the list is, header and all
abbrev pub length_of : Judged (List ℕ) → Listing
length_of (refused n) = Listing.Refused n
length_of (fit l) = Listing.Listed (5 + length l)

-- the refusal, or the list's length; and where all of it lies within the buffer, it was put behind the place of the header
pub record Walked (ws before : List ℕ) (r : Result ℕ Refusal) (after : List ℕ) : Type 0 where
  pub answer : listing_as r ≡ length_of (list_from 5 ws)
  pub put : (l : List ℕ) → list_from 5 ws ≡ fit l → 5 + length l ≤ length before → after ≡ splice before 5 l
