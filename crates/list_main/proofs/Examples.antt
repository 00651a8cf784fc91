-- Inputs and texts that the definitions of specs/Answers.antt come to, computed.
use mathlib.Core.Path.{◌≡◌, refl}
use mathlib.Core.List.{[], ◌∷◌}
use Rattle.std.specs.Prelude.{Some, None}
use Rattle.definition.specs.Listing.{list, list_of, front_test}
use Rattle.printing.specs.Text.{digits, refusal_of}
use Rattle.list_main.specs.Answers.{digit_in, text_from, binary_words, words_of, lines_from, list_text, unread_text, answer_to}

-- `07230203` and `0000001C`, a line each
text : words_of (48 ∷ 55 ∷ 50 ∷ 51 ∷ 48 ∷ 50 ∷ 48 ∷ 51 ∷ 10 ∷ 48 ∷ 48 ∷ 48 ∷ 48 ∷ 48 ∷ 48 ∷ 49 ∷ 67 ∷ 10 ∷ []) ≡ Some (119734787 ∷ 28 ∷ [])
unfolding text_from digit_in
text = refl

-- the same words as a binary file has them
binary : words_of (3 ∷ 2 ∷ 35 ∷ 7 ∷ 28 ∷ 0 ∷ 0 ∷ 0 ∷ []) ≡ Some (119734787 ∷ 28 ∷ [])
unfolding binary_words
binary = refl

-- a line that is not closed, a line with a byte that is no digit, and a binary file with a byte too many
cut : words_of (48 ∷ 55 ∷ 50 ∷ 51 ∷ 48 ∷ 50 ∷ 48 ∷ 51 ∷ []) ≡ None
unfolding text_from digit_in
cut = refl

other : words_of (48 ∷ 55 ∷ 50 ∷ 51 ∷ 48 ∷ 50 ∷ 48 ∷ 103 ∷ 10 ∷ []) ≡ None
unfolding text_from digit_in
other = refl

long : words_of (3 ∷ 2 ∷ 35 ∷ 7 ∷ 0 ∷ []) ≡ None
unfolding binary_words
long = refl

-- a header, and an OpTypeVector %1 = 2 3: two lines
lines : list_text (119734787 ∷ 66304 ∷ 28 ∷ 6 ∷ 0 ∷ 23 ∷ 1 ∷ 2 ∷ 2 ∷ 3 ∷ [])
    ≡ 48 ∷ 55 ∷ 50 ∷ 51 ∷ 48 ∷ 50 ∷ 48 ∷ 51 ∷ 32 ∷ 48 ∷ 48 ∷ 48 ∷ 49 ∷ 48 ∷ 51 ∷ 48 ∷ 48 ∷ 32 ∷ 48 ∷ 48 ∷ 48 ∷ 48 ∷ 48 ∷ 48 ∷ 49 ∷ 99 ∷ 32 ∷ 48 ∷ 48 ∷ 48 ∷ 48 ∷ 48 ∷ 48 ∷ 48 ∷ 54 ∷ 32 ∷ 48 ∷ 48 ∷ 48 ∷ 48 ∷ 48 ∷ 48 ∷ 48 ∷ 48 ∷ 10
    ∷ 48 ∷ 48 ∷ 48 ∷ 48 ∷ 48 ∷ 48 ∷ 49 ∷ 55 ∷ 32 ∷ 48 ∷ 48 ∷ 48 ∷ 48 ∷ 48 ∷ 48 ∷ 48 ∷ 49 ∷ 32 ∷ 48 ∷ 48 ∷ 48 ∷ 48 ∷ 48 ∷ 48 ∷ 48 ∷ 50 ∷ 32 ∷ 48 ∷ 48 ∷ 48 ∷ 48 ∷ 48 ∷ 48 ∷ 48 ∷ 50 ∷ 32 ∷ 48 ∷ 48 ∷ 48 ∷ 48 ∷ 48 ∷ 48 ∷ 48 ∷ 51 ∷ 10 ∷ []
unfolding lines_from digits
lines = refl

-- no bytes are no words, which are refused
nothing : answer_to [] ≡ refusal_of 18
unfolding text_from list list_of front_test
nothing = refl

-- `cannot read this as words, 65536 at most` is printed for one newline
newline_alone : answer_to (10 ∷ []) ≡ unread_text
unfolding text_from digit_in
newline_alone = refl
