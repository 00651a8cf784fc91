-- `Text`. The invariant (`Begun`): what is left of the line, read behind the digits that make the word, is what the line is read as.
use Rattle.list_main.proofs.Reading.{Begun}
use Rattle.list_main.proofs.TextForm9.word_of.Given as goal

abbrev pub invariant-loop-digit : goal.invariant-loop-digit
invariant-loop-digit l = Begun l.line l.word l.digit-index
