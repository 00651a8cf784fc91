-- `read`. The invariant (`PiecesRead`): the words stored, before what the rest is read as, are the whole. The measure is how many
-- bytes are left.
use mathlib.Core.Path.{◌≡◌}
use lib.ListN.{length}
use Rattle.list_main.proofs.Reading.{PiecesRead}
use Rattle.list_main.proofs.read.Given as goal

abbrev pub invariant-loop-bytes : goal.invariant-loop-bytes
invariant-loop-bytes g l = PiecesRead g.row.BYTES g.F.Form.words l.input l.words l.n l.rest × (length l.words ≡ length l.initial.words)

abbrev pub decreases-loop-bytes : goal.decreases-loop-bytes
decreases-loop-bytes g l = length l.rest
