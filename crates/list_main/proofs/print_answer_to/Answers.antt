-- `print_answer_to`: the text has room for all that is put into it, and what was put lies within it. So long a list is not to be
-- computed, so laws for any length are cited.
use mathlib.Core.Path.{sym}
use Prim.Native.Nat.{ℕ}
use lib.ListN.{length-replicate}
use Rattle.list_main.proofs.Laws.{as_long}
use Rattle.list_main.proofs.print_answer_to.Goals as goal

pub slice_bounds-put_answer_to-end : goal.slice_bounds-put_answer_to-end
slice_bounds-put_answer_to-end g c = sym (length-replicate {A = ℕ} 1179648 0)

pub put_answer_to-n-requires : goal.put_answer_to-n-requires
put_answer_to-n-requires g c = as_long 1179648 0

pub slice_bounds-text-end : goal.slice_bounds-text-end
slice_bounds-text-end g c = c.put_answer_to-n.ensures.within.0

pub slice_bounds-print-end : goal.slice_bounds-print-end
slice_bounds-print-end g c = c.put_answer_to-n.ensures.within.1
