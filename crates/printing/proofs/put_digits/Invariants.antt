-- `put_digits`. The invariant: with the digits of the rest put as well, the text is what it is to be in the end (`one_digit` is a
-- turn).
use Prim.Native.Nat.{◌≤◌}
use mathlib.Core.Path.{◌≡◌}
use lib.ListN.{length}
use lib.Seq.{sets}
use Rattle.printing.specs.Text.{digits}
use Rattle.printing.proofs.put_digits.Given as goal

abbrev pub invariant-loop-left : goal.invariant-loop-left
invariant-loop-left l =
    (l.left ≤ l.k) × (length l.text ≡ length l.initial.text) × (sets l.text l.at (digits l.base l.left l.rest) ≡ sets l.initial.text l.at (digits l.base l.k l.n))
