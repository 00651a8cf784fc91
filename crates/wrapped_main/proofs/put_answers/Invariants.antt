-- `put_answers`. The invariant (`Begun`): what stands in the text, then the lines of the globals that are left, is the whole. A
-- turn and the two ways out are one law each of Lines.
use Prim.Native.Nat.{◌-◌}
use Rattle.wrapped_main.proofs.Lines.{Begun}
use Rattle.wrapped_main.proofs.put_answers.Given as goal

abbrev pub invariant-loop-i : goal.invariant-loop-i
invariant-loop-i l = Begun l.sheet l.initial.text l.text l.at l.i (64 - l.i)
