-- The invariant (`Holds`): some state is held, and the rest of the sheet, from here, comes to what the whole comes to; the measure is
-- what is left of the sheet. Each way out and the turn is one law of Loop, to whose form what the callees ensure is brought.
use Rattle.sheet.specs.Holding.{places_in, SameHeld}
use Rattle.sheet_writer.proofs.Loop.{Holds}
use lib.ListN.{length}
use Prim.Native.Nat.{◌-◌}
use Rattle.sheet_writer.proofs.write_sheet.Given as goal

abbrev pub invariant-loop-at : goal.invariant-loop-at
invariant-loop-at l = SameHeld l.initial.held l.held × Holds l.sheet l.initial.w l.initial.memo l.memo (places_in l.held) l.at l.held.counts l.available l.w

abbrev pub decreases-loop-at : goal.decreases-loop-at
decreases-loop-at l = length l.sheet - l.at
