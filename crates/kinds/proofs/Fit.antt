-- What a passed test 10 tells of a field that is one of several cases: a flag is the number that was tested, and a kind is at most 3.
use Prim.Native.Nat.{ℕ, ◌≤◌}
use mathlib.Core.Path.{◌≡◌}
use mathlib.Core.Bool.{true}
use Rattle.std.proofs.Common.{arith}
use Rattle.std.proofs.lemmas.Bool.Decides.{nat_tests}
use Rattle.std.specs.Int.{from_bool}
use lib.Dec.{eqb, leb}
use Rattle.definition.specs.Tests.{scalar_fits}
use Rattle.kinds.specs.Numbers.{flag_number}

pub flag : (y : ℕ) → leb y 1 ≡ true → flag_number (eqb y 1) ≡ y
flag y h = grind (arith, nat_tests)

pub flag_byte : (y : ℕ) → leb y 1 ≡ true → from_bool (eqb y 1) ≡ y
flag_byte y h = grind (arith, nat_tests)

pub kind : (k w : ℕ) → scalar_fits k w ≡ true → k ≤ 3
unfolding scalar_fits
kind k w h = grind (arith, nat_tests)
