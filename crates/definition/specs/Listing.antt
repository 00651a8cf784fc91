-- Document 02, paper 3, "Reading a burnt module back": words listed instruction by instruction, and a list joined to words again.
-- Which words behind an instruction's first one are its result type, its result id and its operands the Reader has from the
-- Specification (`layout_of`, `split`); it knows the opcodes that Declare writes, and no others.
use Rattle.std.specs.Prelude.{ℕ, suc, zero, ◌+◌, ◌*◌, ◌-◌, ◌/◌, ◌%◌, ◌≤◌, ◌<◌, Bool, true, false, ◌&&◌, List, [], ◌∷◌, ◌++◌, ◌⊎◌, ◌≡◌, eqb, leb, length, take, drop, get_or}
use Rattle.std.specs.Prelude.{Option, Some, None}
use Rattle.definition.specs.Choice.{pick, unless, within, or_else}
use Rattle.definition.specs.Numbers.{MagicNumber}
use Rattle.definition.specs.Instructions.{Instruction, optional, plain, type_op, value_op, words, version, header, put, fits}
use Rattle.definition.specs.State.{bound_of, instructions, module_words}
use Rattle.definition.specs.Tests.{Judged, refused, fit, judge}
use Rattle.definition.specs.Operations.{Progress, Written, judged, declare}
use Rattle.definition.specs.Reader.{Operand, id, number, string, ids, numbers, id_or_none, layout_of, split}
use Rattle.definition.specs.WellDeclared.{IsBytes}

-- ---- "20 when an opcode is none that Declare writes, or the count none that it writes for that opcode (a name of one word or more,
-- and lists of members, parts or parameters, may be any length)"

-- so many words, or one more, or any number more
pub data More : Type 0 where
  exactly or_one or_any : More

-- the fewest words that operands take
abbrev pub least_of : List Operand → ℕ
least_of [] = 0
least_of (id ∷ os) = suc (least_of os)
least_of (number ∷ os) = suc (least_of os)
least_of (string ∷ os) = 1
least_of (ids ∷ os) = 0
least_of (numbers ∷ os) = 0
least_of (id_or_none ∷ os) = 0

-- and how many more they may take: where the Specification has numbers up to the end, Declare writes one at most
abbrev pub more_of : List Operand → More
more_of [] = exactly
more_of (id ∷ os) = more_of os
more_of (number ∷ os) = more_of os
more_of (string ∷ os) = or_any
more_of (ids ∷ os) = or_any
more_of (numbers ∷ os) = or_one
more_of (id_or_none ∷ os) = or_one

abbrev pub count_fits : More → ℕ → ℕ → Bool
count_fits exactly least n = eqb n least
count_fits or_one least n = within least (least + 1) n
count_fits or_any least n = leb least n

-- the first word, then a result type and a result id where there are any
abbrev pub words_before : Bool → Bool → ℕ
words_before true true = 3
words_before true false = 2
words_before false true = 2
words_before false false = 1

-- Declare writes the opcode, and with so many words
unfoldable pub is_written : ℕ → ℕ → Bool
is_written o n =
    let l = layout_of o in
    l.known && count_fits (more_of l.operands) (words_before l.typed l.declares + least_of l.operands) n

-- ---- the list: "for each instruction its opcode, its result id (0 if none), the count of its other words and those words"

-- a result type is one of the other words
abbrev pub others : Instruction → List ℕ
others i = optional i.type ++ i.operands

abbrev pub list_one : Instruction → List ℕ
list_one i = i.opcode ∷ or_else 0 i.result ∷ length (others i) ∷ others i

-- of what the Reader makes of the words behind the first one; test 20 leaves no instruction that has too few of them
abbrev pub list_split : Option Instruction → List ℕ
list_split None = []
list_split (Some i) = list_one i

abbrev pub list_body : ℕ → List ℕ → List ℕ
list_body o b = list_split (split o (layout_of o).typed (layout_of o).declares b)

-- "19 when an instruction's word count is 0 or passes the end", then 20: of a first word that has so many words behind it
unfoldable pub instruction_test : ℕ → ℕ → ℕ
instruction_test w left =
    unless (within 1 (suc left) (w / 65536)) 19
    (unless (is_written (w % 65536) (w / 65536)) 20 0)

abbrev pub ahead : List ℕ → Judged (List ℕ) → Judged (List ℕ)
ahead xs (refused n) = refused n
ahead xs (fit ys) = fit (xs ++ ys)

-- "Instructions are taken in order, 19 before 20 within each": past the first k words, which are taken already
unfoldable pub list_from : ℕ → List ℕ → Judged (List ℕ)
list_from zero [] = fit []
list_from zero (w ∷ ws) =
    let n = w / 65536 - 1 in
    let later = list_from n ws in
    judge (instruction_test w (length ws)) (ahead (list_body (w % 65536) (take n ws)) later)
list_from (suc k) [] = fit []
list_from (suc k) (w ∷ ws) = list_from k ws

-- five words, of which magic, version and last are document 01's; generator and bound are free
abbrev pub is_front : List ℕ → Bool
is_front ws = leb 5 (length ws) && (eqb (get_or ws 0 0) MagicNumber && (eqb (get_or ws 1 0) version && eqb (get_or ws 4 0) 0))

-- "18 when there are fewer than five words, or the magic, version or last header word is not document 01's"
unfoldable pub front_test : List ℕ → ℕ
front_test ws = unless (is_front ws) 18 0

-- "first the five header words, then for each instruction .."
unfoldable pub list_of : List ℕ → Judged (List ℕ)
list_of ws = judge (front_test ws) (ahead (take 5 ws) (list_from 5 ws))

-- ---- the operation: "It answers the list's length; words past the list keep their values"; "16 comes last, when the second buffer
-- is shorter than the list, and a refusal changes neither buffer". The first buffer is only read.

pub data Listing : Type 0 where
  Listed : ℕ → Listing
  Refused : ℕ → Listing

-- the answer, and the second buffer as it is left
pub record Relisted : Type 0 where
  pub answer : Listing
  pub buffer : List ℕ

abbrev pub relisted_of : List ℕ → Judged (List ℕ) → Relisted
relisted_of b (refused n) = record { answer = Listing.Refused n; buffer = b }
relisted_of b (fit l) =
    pick (fits l b)
    (record { answer = Listed (length l); buffer = put l b })
    (record { answer = Listing.Refused 16; buffer = b })

unfoldable pub list : List ℕ → List ℕ → Relisted
list ws b = relisted_of b (list_of ws)

-- ---- "the list joined again"

-- the instruction of which an opcode, a result id and other words are the list
abbrev pub instruction_of : ℕ → Bool → Bool → ℕ → List ℕ → Instruction
instruction_of o true true r [] = type_op o r []
instruction_of o true true r (t ∷ xs) = value_op o t r xs
instruction_of o false true r xs = type_op o r xs
instruction_of o typed false r xs = plain o xs

-- past the first k words, which are joined already
unfoldable pub join_from : ℕ → List ℕ → List ℕ
join_from zero [] = []
join_from zero (o ∷ []) = []
join_from zero (o ∷ (r ∷ [])) = []
join_from zero (o ∷ (r ∷ (n ∷ xs))) =
    let later = join_from n xs in
    words (instruction_of o (layout_of o).typed (layout_of o).declares r (take n xs)) ++ later
join_from (suc k) [] = []
join_from (suc k) (x ∷ xs) = join_from k xs

unfoldable pub join : List ℕ → List ℕ
join l = take 5 l ++ join_from 5 l

-- ---- what is proved of the definition

-- "the list joined again is the module", of whatever words it lists
abbrev pub Joins : Type 0
Joins = (ws l : List ℕ) → list_of ws ≡ fit l → join l ≡ ws

-- so no two inputs have one list
abbrev pub ToldApart : Type 0
ToldApart = (v w l : List ℕ) → list_of v ≡ fit l → list_of w ≡ fit l → v ≡ w

-- a list has fewer than twice as many words as it was made of
abbrev pub StaysShort : Type 0
StaysShort = (ws l : List ℕ) → list_of ws ≡ fit l → length l < 2 * length ws

-- the list of instructions
abbrev pub list_all : List Instruction → List ℕ
list_all [] = []
list_all (i ∷ is) = list_one i ++ list_all is

-- "It takes every module that Declare writes": of every fit sheet's module the list is its header and its instructions' lists
abbrev pub TakesModules : Type 0
TakesModules =
    (s : List ℕ) → IsBytes s → (p : Progress) → judged s ≡ fit p
    → list_of (module_words p.state) ≡ fit (header (bound_of p.state) ++ list_all (instructions p.state))

-- words that are listed
abbrev pub HasList : List ℕ → Type 0
HasList ws = (l : List ℕ) × (list_of ws ≡ fit l)

-- and the words that a Declare left at the front of a buffer
abbrev pub TakesWritten : Type 0
TakesWritten =
    (s b : List ℕ) → IsBytes s → (n bound : ℕ) → (declare s b).answer ≡ Written n bound → HasList (take n (declare s b).buffer)

-- a number that words are refused by, whatever the second buffer
abbrev pub ListRefusal : ℕ → Type 0
ListRefusal n = (n ≡ 18) ⊎ ((n ≡ 19) ⊎ (n ≡ 20))

-- "It answers the list's length; words past the list keep their values"; the buffer is not shorter than the list
pub record WholeList (ws b : List ℕ) (d : Relisted) : Type 0 where
  pub whole : List ℕ
  pub lists : list_of ws ≡ fit whole
  pub room : length whole ≤ length b
  pub answer : d.answer ≡ Listed (length whole)
  pub buffer : d.buffer ≡ whole ++ drop (length whole) b

-- "a refusal changes neither buffer"
pub record Unlisted (b : List ℕ) (d : Relisted) : Type 0 where
  pub number : ℕ
  pub known : ListRefusal number ⊎ (number ≡ 16)
  pub answer : d.answer ≡ Listing.Refused number
  pub buffer : d.buffer ≡ b

-- for all words and all second buffers
abbrev pub ListAnswers : Type 0
ListAnswers = (ws b : List ℕ) → WholeList ws b (list ws b) ⊎ Unlisted b (list ws b)
