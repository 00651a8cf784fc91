-- `put_list`. The invariant (`Begun`): what stands in the text, then the text of the words that are left, is the whole (`more` is a
-- turn, `done` the end).
use Rattle.list_main.proofs.Lines.{Begun}
use Rattle.list_main.proofs.put_list.Given as goal

abbrev pub invariant-loop-i : goal.invariant-loop-i
invariant-loop-i l = Begun l.list l.initial.text l.text l.left l.i
