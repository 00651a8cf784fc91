-- What the program prints of Declare's answer. Document 01: "lends Declare 16,384 words and prints one word a line, eight
-- lowercase hexadecimal digits, or `refused N`".
use Rattle.std.specs.Prelude.{ℕ, ◌≤◌, List, length, take, replicate}
use Rattle.definition.specs.Operations.{Declared, Answer, Written, declare}
use Rattle.printing.specs.Text.{lines_of, refusal_of}

-- the words up to the count, or the refusal's number
abbrev pub text_of : Answer → List ℕ → List ℕ
text_of (Written n bound) ws = lines_of (take n ws)
text_of (Answer.Refused n) ws = refusal_of n

abbrev pub printed : Declared → List ℕ
printed d = text_of d.answer d.buffer

-- how many words are lent
abbrev pub words_lent : ℕ
words_lent = 16384

-- what is printed for a sheet
abbrev pub answer_to : List ℕ → List ℕ
answer_to s = printed (declare s (replicate words_lent 0))

-- the count of words lies within the buffer
abbrev pub CountWithin : Answer → List ℕ → Type 0
CountWithin (Written n bound) ws = n ≤ length ws
CountWithin (Answer.Refused n) ws = Unit
