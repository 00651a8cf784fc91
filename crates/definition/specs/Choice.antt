-- Choices and tests, as the other files of this folder write them.
use Rattle.std.specs.Prelude.{ℕ, zero, suc, Bool, true, false, ◌&&◌, List, [], ◌∷◌, eqb, leb}
use Rattle.std.specs.Prelude.{Option, Some, None}

abbrev pub pick {ℓ} : {A : Type ℓ} → Bool → A → A → A
pick true a b = a
pick false a b = b

-- the refusal n unless the test holds, else what the later tests say; 0 is no refusal
abbrev pub unless : Bool → ℕ → ℕ → ℕ
unless true n later = later
unless false n later = n

-- the first refusal of two
abbrev pub first : ℕ → ℕ → ℕ
first zero later = later
first (suc n) later = suc n

abbrev pub within : ℕ → ℕ → ℕ → Bool
within low high x = leb low x && leb x high

-- x is one of the numbers
abbrev pub among : ℕ → List ℕ → Bool
among x [] = false
among x (k ∷ ks) = pick (eqb x k) true (among x ks)

-- P holds of each element
abbrev pub every {ℓ} : {A : Type ℓ} → (A → Bool) → List A → Bool
every P [] = true
every P (x ∷ xs) = P x && every P xs

-- the value, or another where there is none
abbrev pub or_else : {A : Type 0} → A → Option A → A
or_else d None = d
or_else d (Some a) = a
