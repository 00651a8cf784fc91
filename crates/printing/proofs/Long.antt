-- One byte more than a sheet may have is enough to judge it by: where the input is longer it is refused by its length.
use Prim.Native.Nat.{ℕ, ◌<◌}
use mathlib.Core.Path.{◌≡◌, refl, sym, ap, ◌∙◌}
use mathlib.Core.Bool.{Bool, true, false}
use mathlib.Core.List.{List}
use native.Mathlib.Omega.{arith}
use lib.Dec.{leb}
use lib.ListN.{length, take}
use lib.Seq.{take_all, length-take-le}
use borrow.Author.Tests.{leb-true, leb-false, le-leb, lt-leb}
use Rattle.definition.specs.Tests.{sheet_least, sheet_most, header_test, refused}
use Rattle.definition.specs.Operations.{judged}

long : (s : List ℕ) → sheet_most < length s → judged s ≡ refused 1
unfolding judged header_test
long s h = simp (le-leb sheet_least (length s) (omega arith), lt-leb (length s) sheet_most h)

-- the bytes that a program holds of a sheet, however long that is
abbrev pub held : List ℕ → List ℕ
held s = take 16385 s

pub judged_held : (s : List ℕ) → judged (held s) ≡ judged s
judged_held s = by (leb (length s) sheet_most) refl
  where
    by : (t : Bool) → leb (length s) sheet_most ≡ t → judged (held s) ≡ judged s
    by true e = ap judged (take_all 16385 s (omega (arith, leb-true (length s) sheet_most e)))
    by false e =
        let h = leb-false (length s) sheet_most e in
        long (held s) (omega (arith, length-take-le 16385 s (omega arith))) ∙ sym (long s h)
