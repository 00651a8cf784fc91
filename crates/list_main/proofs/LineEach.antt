-- The text of a list is a line for the header and a line for each instruction. Where so many words are left on a line as a run of
-- words has, it is printed as one line, and where none is left, an instruction's third word says how many there are.
use Prim.Native.Nat.{ℕ, suc, ◌+◌}
use mathlib.Core.Path.{◌≡◌, refl, sym, ap, ◌∙◌}
use mathlib.Core.List.{List, [], ◌∷◌, ◌++◌, append_assoc}
use native.Mathlib.Omega.{arith}
use lib.ListN.{length}
use Rattle.definition.specs.Choice.{or_else}
use Rattle.definition.specs.Instructions.{Instruction, header}
use Rattle.definition.specs.State.{bound_of, instructions, module_words}
use Rattle.definition.specs.Tests.{fit}
use Rattle.definition.specs.Operations.{Progress, judged}
use Rattle.definition.specs.WellDeclared.{IsBytes}
use Rattle.definition.specs.Listing.{others, list_one, list_all, list_of}
use Rattle.definition.proofs.Relisting.{takes_modules}
use Rattle.list_main.specs.Answers.{word_text, lines_from, list_text}

-- words on one line
abbrev pub line_text : List ℕ → List ℕ
line_text [] = []
line_text (w ∷ ws) = word_text w (length ws) ++ line_text ws

-- a line for each instruction
abbrev pub all_lines : List Instruction → List ℕ
all_lines [] = []
all_lines (i ∷ is) = line_text (list_one i) ++ all_lines is

line_of : (xs later : List ℕ) → lines_from (length xs) (xs ++ later) ≡ line_text xs ++ lines_from 0 later
unfolding lines_from
line_of [] later = refl
line_of (x ∷ xs) later =
    ap (λ (z : List ℕ). word_text x (length xs) ++ z) (line_of xs later)
    ∙ sym (append_assoc (word_text x (length xs)) (line_text xs) (lines_from 0 later))

-- a line that is begun has three words and as many more as the third one says
begun : (o r n : ℕ) (later : List ℕ) → lines_from 0 (o ∷ (r ∷ (n ∷ later))) ≡ lines_from (suc (suc (suc n))) (o ∷ (r ∷ (n ∷ later)))
unfolding lines_from
begun o r n later =
    let e : 2 + n ≡ suc (suc n) = omega arith in
    ap (λ (k : ℕ). word_text o k ++ lines_from k (r ∷ (n ∷ later))) e

instruction_line : (i : Instruction) (later : List ℕ) → lines_from 0 (list_one i ++ later) ≡ line_text (list_one i) ++ lines_from 0 later
instruction_line i later =
    begun i.opcode (or_else 0 i.result) (length (others i)) (others i ++ later) ∙ line_of (list_one i) later

lines_of : (is : List Instruction) → lines_from 0 (list_all is) ≡ all_lines is
unfolding lines_from
lines_of [] = refl
lines_of (i ∷ is) = instruction_line i (list_all is) ∙ ap (λ (z : List ℕ). line_text (list_one i) ++ z) (lines_of is)

pub line_each : (front : List ℕ) (is : List Instruction) → length front ≡ 5 → list_text (front ++ list_all is) ≡ line_text front ++ all_lines is
line_each front is h =
    ap (λ (k : ℕ). lines_from k (front ++ list_all is)) (sym h)
    ∙ line_of front (list_all is)
    ∙ ap (λ (z : List ℕ). line_text front ++ z) (lines_of is)

-- so it is with every module that Declare writes
pub module_lines : (s : List ℕ) → IsBytes s → (p : Progress) → judged s ≡ fit p → (l : List ℕ) → list_of (module_words p.state) ≡ fit l
    → list_text l ≡ line_text (header (bound_of p.state)) ++ all_lines (instructions p.state)
module_lines s bytes p e l h =
    let q = takes_modules s bytes p e in
    let r : header (bound_of p.state) ++ list_all (instructions p.state) ≡ l = cc in
    ap list_text (sym r) ∙ line_each (header (bound_of p.state)) (instructions p.state) refl
