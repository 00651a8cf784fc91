-- Tests 8 to 12 of the definition are tests 8 to 11 and then 12: an answer that is not 0 ends what follows it too. One law for
-- each test, put to use for the numbers 8 to 11.
use Prim.Native.Nat.{ℕ, suc}
use mathlib.Core.Path.{◌≡◌, refl}
use mathlib.Core.Bool.{Bool, true, false, not}
use lib.ListN.{length}
use Rattle.definition.specs.Choice.{unless, first}
use Rattle.definition.specs.Sheet.{Record, entry_of}
use Rattle.definition.specs.Tests.{Seen, repeated, entry_test}
use Rattle.sheet_fields.specs.Fields.{fields_test}

first_unless : (n : ℕ) (b : Bool) (x y : ℕ) → first (unless b (suc n) x) y ≡ unless b (suc n) (first x y)
first_unless n true x y = refl
first_unless n false x y = refl

pub fields_first : (n : Seen) (r : Record) → entry_test n r (entry_of r).value (entry_of r).end ≡ first (fields_test (length n.types) (length n.constants) r) (unless (not (repeated n (entry_of r).value)) 12 0)
unfolding entry_test fields_test
fields_first n r = simp (first_unless 7, first_unless 8, first_unless 9, first_unless 10)
