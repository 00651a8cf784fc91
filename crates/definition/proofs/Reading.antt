-- Reading the written words gives the instructions back: each instruction's first word tells how many words it has, and its
-- layout takes its body apart again.
use Prim.Native.Nat.{ℕ, suc, zero, ◌+◌, ◌*◌, ◌-◌, ◌/◌, ◌%◌, ◌<◌, ◌≤◌}
use mathlib.Core.Path.{◌≡◌, refl, ap, ◌∙◌}
use mathlib.Core.List.{List, [], ◌∷◌, ◌++◌, Memᴰ}
use Rattle.std.specs.Prelude.{Option, Some, None}
use mathlib.Core.Bool.{true}
use native.Mathlib.Omega.{arith}
use borrow.Author.Tests.{le-leb, lt-ltb}
use lib.Dec.{leb}
use lib.ListN.{length, take, drop, length-append}
use lib.Seq.{take_at, drop_at}
use Rattle.definition.specs.Choice.{every}
use Rattle.definition.specs.Instructions.{Instruction, optional, body, words, all_words}
use Rattle.definition.specs.Reader.{layout_of, split, checked, joined, read_one, read_all, is_word, read_module}
use Rattle.definition.specs.State.{State, bound_of, instructions, module_words}
use Rattle.definition.specs.WellDeclared.{declares_id}
use Rattle.definition.proofs.Sizes.{W, Under, under-append, Sized}
use Rattle.definition.proofs.ByShape.{Formed}

-- what the reader finds of an instruction: it is taken, and its words fit
pub record Readable (last : ℕ) (d : Instruction) : Type 0 where
  pub formed : Formed d
  pub fits : Sized last d

pub split_body : (o : ℕ) (t r : Option ℕ) (xs : List ℕ) → split o (declares_id t) (declares_id r) (optional t ++ (optional r ++ xs)) ≡ Some (record { opcode = o; type = t; result = r; operands = xs })
split_body o None None xs = refl
split_body o None (Some r) xs = refl
split_body o (Some t) None xs = refl
split_body o (Some t) (Some r) xs = refl

one_checked : (i : Instruction) → Formed i → checked (split i.opcode (declares_id i.type) (declares_id i.result) (body i)) ≡ Some i
one_checked i f = ap checked (split_body i.opcode i.type i.result i.operands) ∙ rw f.operands refl

one_read : (i : Instruction) (c n o : ℕ) (rest : List ℕ) → Formed i → 1 ≤ c → length (body i) ≡ n → o ≡ i.opcode
    → read_one (leb 1 c) (leb n (length (body i ++ rest))) (layout_of o).known o (take n (body i ++ rest)) ≡ Some i
one_read i c n o rest f pos e q =
    rw (le-leb 1 c pos, le-leb n (length (body i ++ rest)) (omega (arith, length-append (body i) rest)), take_at (body i) rest n e, q, f.known, f.typed, f.declares) (one_checked i f)

all_read : (is : List Instruction) (fuel : ℕ) → length (all_words is) ≤ fuel → ((i : Instruction) → Memᴰ i is → Formed i) → read_all fuel (all_words is) ≡ Some is
unfolding read_all all_words words
all_read [] zero h w = refl
all_read [] (suc fuel) h w = refl
all_read (i ∷ is) zero h w = absurd (omega arith)
all_read (i ∷ is) (suc fuel) h w =
    let fi = w i (Memᴰ.head refl) in
    let word = 65536 * suc (length (body i)) + i.opcode in
    let small : i.opcode < 65536 = fi.small in
    let n : length (body i) ≡ word / 65536 - 1 = omega arith in
    let o : word % 65536 ≡ i.opcode = omega arith in
    let rest : read_all fuel (all_words is) ≡ Some is = all_read is fuel (omega (arith, length-append (body i) (all_words is))) (λ j m. w j (Memᴰ.tail m)) in
    let first = one_read i (word / 65536) (word / 65536 - 1) (word % 65536) (all_words is) fi (omega arith) n o in
    ap (λ (a : Option Instruction). joined a (read_all fuel (drop (word / 65536 - 1) (body i ++ all_words is)))) first
    ∙ (ap (λ (ws : List ℕ). joined (Some i) (read_all fuel ws)) (drop_at (body i) (all_words is) (word / 65536 - 1) n)
    ∙ ap (λ (a : Option (List Instruction)). joined (Some i) a) rest)

-- ---- every word fits

under_words : (xs : List ℕ) → Under W xs → every is_word xs ≡ true
under_words [] h = refl
under_words (x ∷ xs) h = rw (lt-ltb x 4294967296 (omega arith), under_words xs h.1)

one_fits : (last : ℕ) (i : Instruction) → last ≤ W → Readable last i → Under W (words i)
unfolding words
one_fits last i l r = (omega (arith, r.formed.small, r.fits.short), r.fits.words W (omega arith) l)

all_fit : (last : ℕ) (is : List Instruction) → last ≤ W → ((i : Instruction) → Memᴰ i is → Readable last i) → Under W (all_words is)
unfolding all_words
all_fit last [] l r = tt
all_fit last (i ∷ is) l r = under-append W (words i) (all_words is) (one_fits last i l (r i (Memᴰ.head refl))) (all_fit last is l (λ j m. r j (Memᴰ.tail m)))

-- ---- the module

pub module_read : (s : State) → bound_of s ≤ W → ((i : Instruction) → Memᴰ i (instructions s) → Readable s.last i)
    → read_module (module_words s) ≡ Some (record { version = 0x00010300; generator = 28; bound = bound_of s; instructions = instructions s })
unfolding read_module module_words
module_read s low r =
    let ws = all_words (instructions s) in
    let fit : every is_word ws ≡ true = under_words ws (all_fit s.last (instructions s) (omega arith) r) in
    let back : read_all (suc (suc (suc (suc (suc (length ws)))))) ws ≡ Some (instructions s) = all_read (instructions s) (suc (suc (suc (suc (suc (length ws)))))) (omega arith) (λ i m. (r i m).formed) in
    rw (le-leb 5 (suc (suc (suc (suc (suc (length ws)))))) (omega arith), lt-ltb (bound_of s) 4294967296 (omega arith), fit, back)
