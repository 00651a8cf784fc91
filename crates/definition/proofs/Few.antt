-- Where the Specification takes numbers up to the end of an instruction, the rules write one at most: paper 3 counts on it.
use Prim.Native.Nat.{ℕ, ◌≤◌}
use mathlib.Core.Path.{◌≡◌, refl}
use mathlib.Core.Bool.{Bool, true, false}
use mathlib.Core.List.{List, [], ◌∷◌}
use native.Mathlib.Omega.{arith}
use lib.ListN.{length}
use Rattle.definition.specs.Reader.{Operand, id, number, string, ids, numbers, id_or_none}

-- of numbers up to the end there is one at most
abbrev pub few_numbers : List Operand → List ℕ → Bool
few_numbers [] xs = true
few_numbers (id ∷ os) [] = true
few_numbers (id ∷ os) (x ∷ xs) = few_numbers os xs
few_numbers (number ∷ os) [] = true
few_numbers (number ∷ os) (x ∷ xs) = few_numbers os xs
few_numbers (string ∷ os) xs = true
few_numbers (ids ∷ os) xs = true
few_numbers (numbers ∷ os) [] = true
few_numbers (numbers ∷ os) (x ∷ []) = true
few_numbers (numbers ∷ os) (x ∷ (y ∷ xs)) = false
few_numbers (id_or_none ∷ os) xs = true

pub one_few : (xs : List ℕ) → length xs ≤ 1 → few_numbers (numbers ∷ []) xs ≡ true
one_few [] h = refl
one_few (x ∷ []) h = refl
one_few (x ∷ (y ∷ xs)) h = absurd (omega arith)
