-- What the program reads and what it prints. Document 02, paper 3: a module's words are listed, "first the five header words,
-- then for each instruction its opcode, its result id (0 if none), the count of its other words and those words".
use Rattle.std.specs.Prelude.{ℕ, zero, suc, ◌+◌, ◌*◌, ◌-◌, ◌≤◌, Bool, ◌&&◌, List, [], ◌∷◌, ◌++◌, eqb, leb, ltb, length, get_or, take, replicate}
use Rattle.std.specs.Prelude.{Option, Some, None}
use Rattle.definition.specs.Choice.{pick, within}
use Rattle.definition.specs.Numbers.{MagicNumber}
use Rattle.definition.specs.Listing.{Listing, Listed, Relisted, list}
use Rattle.printing.specs.Text.{newline, digits, refusal_of}

-- ---- the input's words

-- words before those that are read from the rest, if that can be read
abbrev pub before : List ℕ → Option (List ℕ) → Option (List ℕ)
before ws None = None
before ws (Some later) = Some (ws ++ later)

-- the number of a hexadecimal digit, and 16 of any other byte
unfoldable pub digit_in : ℕ → ℕ
digit_in b = pick (within 48 57 b) (b - 48) (pick (within 97 102 b) (b - 97 + 10) (pick (within 65 70 b) (b - 65 + 10) 16))

-- the words of lines of eight digits, where k digits of a line are to come behind those that make the number w
unfoldable pub text_from : ℕ → ℕ → List ℕ → Option (List ℕ)
text_from k w [] = pick (eqb k 8) (Some []) None
text_from zero w (b ∷ bs) = let later = text_from 8 0 bs in pick (eqb b newline) (before (w ∷ []) later) None
text_from (suc k) w (b ∷ bs) = let later = text_from k (w * 16 + digit_in b) bs in pick (ltb (digit_in b) 16) later None

-- those of a text
abbrev pub text_words : List ℕ → Option (List ℕ)
text_words bs = text_from 8 0 bs

-- the word that the first four bytes make, the lowest first
abbrev pub low_first : List ℕ → ℕ
low_first bs = get_or bs 0 0 + 256 * get_or bs 1 0 + 65536 * (get_or bs 2 0 + 256 * get_or bs 3 0)

-- the words of a binary file
unfoldable pub binary_words : List ℕ → Option (List ℕ)
binary_words [] = Some []
binary_words (a ∷ []) = None
binary_words (a ∷ (b ∷ [])) = None
binary_words (a ∷ (b ∷ (c ∷ []))) = None
binary_words (a ∷ (b ∷ (c ∷ (d ∷ bs)))) = let later = binary_words bs in before (low_first (a ∷ b ∷ c ∷ d ∷ []) ∷ []) later

-- a binary file begins with the magic number
abbrev pub is_binary : List ℕ → Bool
is_binary bs = leb 4 (length bs) && eqb (low_first bs) MagicNumber

-- how many words the program holds
abbrev pub words_most : ℕ
words_most = 65536

-- the words, if they are no more than so many
abbrev pub at_most : ℕ → Option (List ℕ) → Option (List ℕ)
at_most n None = None
at_most n (Some ws) = pick (leb (length ws) n) (Some ws) None

-- the words of an input, which is binary or text
abbrev pub words_of : List ℕ → Option (List ℕ)
words_of bs = at_most words_most (pick (is_binary bs) (binary_words bs) (text_words bs))

-- ---- the text of a list

-- how many words follow one on its line, where with it k were left; where none was it begins a line, whose third word says how
-- many follow that
abbrev pub following : ℕ → List ℕ → ℕ
following zero later = 2 + get_or later 1 0
following (suc k) later = k

-- a newline closes a line, and a space parts two words
abbrev pub ending : ℕ → ℕ
ending zero = newline
ending (suc k) = 32

-- a word that so many follow on its line
abbrev pub word_text : ℕ → ℕ → List ℕ
word_text w k = digits 16 8 w ++ (ending k ∷ [])

-- words of which the first k stand on the line that is begun
unfoldable pub lines_from : ℕ → List ℕ → List ℕ
lines_from k [] = []
lines_from k (w ∷ ws) = word_text w (following k ws) ++ lines_from (following k ws) ws

-- a list: the header is the first line
abbrev pub list_text : List ℕ → List ℕ
list_text ws = lines_from 5 ws

-- ---- the answer

abbrev pub text_of : Listing → List ℕ → List ℕ
text_of (Listed n) b = list_text (take n b)
text_of (Listing.Refused n) b = refusal_of n

abbrev pub printed : Relisted → List ℕ
printed d = text_of d.answer d.buffer

-- how many words are lent for a list
abbrev pub words_lent : ℕ
words_lent = 131072

-- what is printed for words
abbrev pub list_answer : List ℕ → List ℕ
list_answer ws = printed (list ws (replicate words_lent 0))

-- `cannot read this as words, 65536 at most`
abbrev pub unread_text : List ℕ
unread_text =
    99 ∷ 97 ∷ 110 ∷ 110 ∷ 111 ∷ 116 ∷ 32 ∷ 114 ∷ 101 ∷ 97 ∷ 100 ∷ 32
    ∷ 116 ∷ 104 ∷ 105 ∷ 115 ∷ 32 ∷ 97 ∷ 115 ∷ 32 ∷ 119 ∷ 111 ∷ 114 ∷ 100 ∷ 115 ∷ 44
    ∷ 32 ∷ 54 ∷ 53 ∷ 53 ∷ 51 ∷ 54 ∷ 32 ∷ 97 ∷ 116 ∷ 32 ∷ 109 ∷ 111 ∷ 115 ∷ 116 ∷ newline ∷ []

abbrev pub answer_of : Option (List ℕ) → List ℕ
answer_of None = unread_text
answer_of (Some ws) = list_answer ws

-- what is printed for an input
abbrev pub answer_to : List ℕ → List ℕ
answer_to bs = answer_of (words_of bs)

-- the count of a list's words lies within the buffer
abbrev pub ListWithin : Listing → List ℕ → Type 0
ListWithin (Listed n) b = n ≤ length b
ListWithin (Listing.Refused n) b = Unit
