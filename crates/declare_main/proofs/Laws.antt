-- Two laws of what is printed: the words that the definition's Declare says it wrote lie within the buffer, and the bytes that
-- the program holds of a sheet decide the answer.
use Prim.Native.Nat.{ℕ}
use mathlib.Core.Path.{◌≡◌, refl, ap}
use mathlib.Core.Bool.{Bool, true, false}
use mathlib.Core.List.{List}
use native.Mathlib.Omega.{arith}
use lib.ListN.{length, replicate, length-append}
use borrow.Author.Tests.{leb-true}
use Rattle.definition.specs.Choice.{pick}
use Rattle.definition.specs.Instructions.{put, fits}
use Rattle.definition.specs.State.{bound_of, module_words}
use Rattle.definition.specs.Tests.{Judged, refused, fit}
use Rattle.definition.specs.Operations.{Progress, Declared, Written, unchanged, declared_of, judged, declare}
use Rattle.printing.proofs.Long.{held, judged_held}
use Rattle.declare_main.specs.Answers.{printed, words_lent, answer_to, CountWithin}

abbrev Within : Declared → Type 0
Within d = CountWithin d.answer d.buffer

written : (ws : List ℕ) (bound : ℕ) (b : List ℕ) (t : Bool) → fits ws b ≡ t
    → Within (pick t (record { answer = Written (length ws) bound; buffer = put ws b }) (unchanged 16 b))
unfolding put
written ws bound b true e =
    let h = leb-true (length ws) (length b) e in
    simp (e, length-append) (omega arith)
written ws bound b false e = tt

judging : (b : List ℕ) (j : Judged Progress) → Within (declared_of b j)
judging b (refused n) = tt
judging b (fit p) = let ws = module_words p.state in written ws (bound_of p.state) b (fits ws b) refl

pub counted : (s b : List ℕ) → Within (declare s b)
unfolding declare
counted s b = judging b (judged s)

pub answer_held : (s : List ℕ) → answer_to (held s) ≡ answer_to s
unfolding declare
answer_held s = ap (λ (j : Judged Progress). printed (declared_of (replicate words_lent 0) j)) (judged_held s)
