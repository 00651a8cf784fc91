-- `put_each` meets its contract. The loop's invariant: the words of the first i items stand at the front of the buffer, whose rest
-- is as it was.
use Rattle.std.proofs.Common.{◌≡◌, map}
use Rattle.spirv.proofs.Puts.{laid}
use Rattle.spirv.proofs.words.put_each.Given as goal

abbrev pub invariant-loop-i : goal.invariant-loop-i
invariant-loop-i g l = l.sink ≡ laid l.i (map g.W.Word.as_word l.items) l.initial.sink
