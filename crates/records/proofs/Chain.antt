-- A chain of tests in the code against the chain of `unless` and `first` in the definition: for each form of test one law
-- where it stops the chain and one where the chain goes on. `search` over these laws closes each return of a chain.
use Prim.Native.Nat.{ℕ, zero, suc, ◌<◌, ◌≤◌}
use mathlib.Core.Path.{◌≡◌, refl}
use mathlib.Core.Bool.{Bool, true, false, not, ◌&&◌, and-false}
use mathlib.Core.List.{List, [], ◌∷◌, ◌++◌}
use native.Mathlib.Omega.{arith}
use borrow.Author.Tests.{not-true, not-false, eq-eqb, ne_eqb, lt-ltb, lt-leb, le-leb, le-ltb}
use lib.Dec.{eqb, ltb}
use Rattle.definition.specs.Choice.{unless, first, within, every}

pub stop : (r s : Bool) (n x : ℕ) → r ≡ s → not r ≡ true → n ≡ unless s n x
stop r s n x e h = simp (← e, not-true r h)

pub go : (r s : Bool) (n x y : ℕ) → r ≡ s → not r ≡ false → y ≡ x → y ≡ unless s n x
go r s n x y e h k = simp (← e, not-false r h) k

pub stop_not : (r s : Bool) (n x : ℕ) → r ≡ s → r ≡ true → n ≡ unless (not s) n x
stop_not r s n x e h = simp (← e, h)

pub go_not : (r s : Bool) (n x y : ℕ) → r ≡ s → r ≡ false → y ≡ x → y ≡ unless (not s) n x
go_not r s n x y e h k = simp (← e, h) k

pub stop_ne : (a b d n x : ℕ) → a ≡ d → (a ≡ b → ⊥) → n ≡ unless (eqb d b) n x
stop_ne a b d n x e h = simp (← e, ne_eqb a b h)

pub go_eq : (a b d n x y : ℕ) → a ≡ d → a ≡ b → y ≡ x → y ≡ unless (eqb d b) n x
go_eq a b d n x y e h k = simp (← e, eq-eqb a b h) k

pub go_pos : (a d n x y : ℕ) → a ≡ d → (a ≡ 0 → ⊥) → y ≡ x → y ≡ unless (ltb 0 d) n x
go_pos a d n x y e h k = simp (← e, lt-ltb 0 a (omega arith)) k

pub stop_le : (a b d n x : ℕ) → a ≡ d → b ≤ a → n ≡ unless (ltb d b) n x
stop_le a b d n x e h = simp (← e, le-ltb a b h)

pub go_lt : (a b d n x y : ℕ) → a ≡ d → a < b → y ≡ x → y ≡ unless (ltb d b) n x
go_lt a b d n x y e h k = simp (← e, lt-ltb a b h) k

pub first_stop : (a d x : ℕ) → a ≡ d → (a ≡ 0 → ⊥) → a ≡ first d x
first_stop zero d x e h = absurd (h refl)
first_stop (suc a) d x e h = simp (← e)

pub first_go : (a d x y : ℕ) → a ≡ d → a ≡ 0 → y ≡ x → y ≡ first d x
first_go a d x y e h k = simp (← e, h) k

-- ---- the same of `&&`

pub and_stop : (r s x : Bool) → r ≡ s → r ≡ false → r ≡ (s && x)
and_stop r s x e h = simp (← e, h)

pub and_go : (r s x y : Bool) → r ≡ s → r ≡ true → y ≡ x → y ≡ (s && x)
and_go r s x y e h k = simp (← e, h) k

-- a test of the numbers of two lists
pub every_both : (P : ℕ → Bool) (xs ys : List ℕ) → every P (xs ++ ys) ≡ (every P xs && every P ys)
every_both P [] ys = refl
every_both P (x ∷ xs) ys = go (P x) (every_both P xs ys)
  where
    go : (t : Bool) → every P (xs ++ ys) ≡ (every P xs && every P ys) → (t && every P (xs ++ ys)) ≡ ((t && every P xs) && every P ys)
    go true e = e
    go false e = refl

-- ---- a number inside a range, below it and above it

pub inside : (lo hi b : ℕ) → lo ≤ b → b ≤ hi → within lo hi b ≡ true
inside lo hi b h k = simp (le-leb lo b h, le-leb b hi k)

pub below : (lo hi b : ℕ) → b < lo → within lo hi b ≡ false
below lo hi b h = simp (lt-leb lo b h)

pub above : (lo hi b : ℕ) → hi < b → within lo hi b ≡ false
above lo hi b h = simp (lt-leb b hi h, and-false)
