-- The invariant is `Walking`, and each way through a turn is a law of `Walks`. The measure is how many words are left.
use lib.ListN.{length}
use Rattle.listing.proofs.Walks.{Walking}
use Rattle.listing.proofs.list_instructions.Given as goal

abbrev pub invariant-loop-first : goal.invariant-loop-first
invariant-loop-first l = Walking l.words l.initial.out l.rest l.to l.out

abbrev pub decreases-loop-first : goal.decreases-loop-first
decreases-loop-first l = length l.rest
