-- `main`: so long a buffer is not to be computed, so a law for any length is cited.
use Rattle.std.proofs.Common.{ℕ, sym}
use lib.ListN.{length-replicate}
use Rattle.list_main.proofs.main.Goals as goal

pub slice_bounds-read-end : goal.slice_bounds-read-end
slice_bounds-read-end c = sym (length-replicate {A = ℕ} 589825 0)
