-- What tests and choices say, once they are known to hold: of `&&`, of `every`, of `pick`, and of the chains of `unless` and `first`
-- in which the definition writes its refusals. The crates above use these laws too.
use Prim.Native.Nat.{ℕ, suc, zero, ◌≤◌}
use mathlib.Core.Bool.{Bool, true, false, ◌&&◌, beq}
use mathlib.Core.List.Memᴰ
use mathlib.Core.List.{List, [], ◌∷◌, Memᴰ}
use mathlib.Core.Logic.{◌⊎◌, inl, inr}
use mathlib.Core.Path.{◌≡◌, refl}
use native.Mathlib.Omega.{arith}
use lib.Dec.{T}
use lib.ListN.{get_or}
use Rattle.definition.specs.Choice.{pick, unless, first, every}

pub true_is : (b : Bool) → T b → b ≡ true
true_is true t = refl
true_is false t = absurd t

pub alike_is : (a b : Bool) → T (beq a b) → a ≡ b
alike_is true true t = refl
alike_is true false t = absurd t
alike_is false true t = absurd t
alike_is false false t = refl

pub both_true : (a b : Bool) → T (a && b) → T a × T b
both_true true b t = (tt, t)
both_true false b t = absurd t

pub every_one {ℓ} : {A : Type ℓ} (P : A → Bool) (xs : List A) → T (every P xs) → (x : A) → Memᴰ x xs → T (P x)
every_one P [] t x m = absurd (Memᴰ.not-nil m)
every_one P (y ∷ ys) t x m =
    let q = both_true (P y) (every P ys) t in
    go q.0 (every_one P ys q.1 x) (Memᴰ.cases_cons m)
  where
    go : T (P y) → (Memᴰ x ys → T (P x)) → (x ≡ y) ⊎ Memᴰ x ys → T (P x)
    go p f (inl e) = rw e p
    go p f (inr n) = f n

pub every_get_or : {A : Type 0} (P : A → Bool) (xs : List A) (i : ℕ) (d : A) → T (every P xs) → T (P d) → T (P (get_or xs i d))
every_get_or P [] i d h t = t
every_get_or P (x ∷ xs) zero d h t = (both_true (P x) (every P xs) h).0
every_get_or P (x ∷ xs) (suc i) d h t = every_get_or P xs i d (both_true (P x) (every P xs) h).1 t

-- ---- a choice between two numbers, and between two facts

pub pick_le : (b : Bool) (x y B : ℕ) → x ≤ B → y ≤ B → pick b x y ≤ B
pick_le true x y B p q = p
pick_le false x y B p q = q

pub pick_for {ℓ} : {A : Type ℓ} (P : A → Type 0) (b : Bool) (x y : A) → P x → P y → P (pick b x y)
pick_for P true x y p q = p
pick_for P false x y p q = q

-- ---- tests that a record passes

pub first_passed : (a b : ℕ) → first a b ≡ 0 → (a ≡ 0) × (b ≡ 0)
first_passed zero b e = (refl, e)
first_passed (suc a) b e = absurd (omega arith)

pub unless_passed : (t : Bool) (n later : ℕ) → unless t (suc n) later ≡ 0 → T t × (later ≡ 0)
unless_passed true n later e = (tt, e)
unless_passed false n later e = absurd (omega arith)

-- ---- the same, of tests that are equal to true

pub both : (a b : Bool) → (a && b) ≡ true → (a ≡ true) × (b ≡ true)
both true b e = (refl, e)
both false b e = let z : ◌≡◌ {A = ℕ} 0 1 = cc in absurd (omega arith)

pub unless_zero : (b : Bool) (n x : ℕ) → unless b (suc n) x ≡ 0 → (b ≡ true) × (x ≡ 0)
unless_zero true n x e = (refl, e)
unless_zero false n x e = absurd (omega arith)
