-- What a test answered, as a number: 0 where it was passed, and else the refusal's, which is never 0.
use Prim.Native.Nat.{ℕ}
use mathlib.Core.Path.{◌≡◌, refl, ap}
use native.Mathlib.Omega.{arith}
use Rattle.std.specs.Prelude.{Result, Ok, Err}
use Rattle.refusals.specs.declared.Refusal.{Refusal}
use Rattle.refusals.specs.declared.Refusal.TheVariants.{SheetLength, Version, Flags, NoRecord, UnknownTag, OutOfOrder, TooMany, FieldsEnd, Name, Value, Reference, Repeated, Unfit, Unavailable, Bound, BufferLength, NoGlobal, ModuleFront, InstructionLength, InstructionForm}
use Rattle.refusals.specs.Numbers.{number_of}

pub not_zero : (r : Refusal) → number_of r ≡ 0 → ⊥
not_zero SheetLength e = omega (arith, e)
not_zero Version e = omega (arith, e)
not_zero Flags e = omega (arith, e)
not_zero NoRecord e = omega (arith, e)
not_zero UnknownTag e = omega (arith, e)
not_zero OutOfOrder e = omega (arith, e)
not_zero TooMany e = omega (arith, e)
not_zero FieldsEnd e = omega (arith, e)
not_zero Name e = omega (arith, e)
not_zero Value e = omega (arith, e)
not_zero Reference e = omega (arith, e)
not_zero Repeated e = omega (arith, e)
not_zero Unfit e = omega (arith, e)
not_zero Unavailable e = omega (arith, e)
not_zero Bound e = omega (arith, e)
not_zero BufferLength e = omega (arith, e)
not_zero NoGlobal e = omega (arith, e)
not_zero ModuleFront e = omega (arith, e)
not_zero InstructionLength e = omega (arith, e)
not_zero InstructionForm e = omega (arith, e)

-- two answers that are alike hold the same
pub ok_same : {A : Type 0} (a b : A) → ◌≡◌ {A = Result A Refusal} (Ok a) (Ok b) → a ≡ b
ok_same {A = A} a b e = ap kept e
  where
    kept : Result A Refusal → A
    kept (Ok x) = x
    kept (Err r) = a

-- a refusal is no answer
pub no_answer : {A : Type 0} {r : Refusal} {a : A} → ◌≡◌ {A = Result A Refusal} (Err r) (Ok a) → ⊥
no_answer {A = A} e = let z : ◌≡◌ {A = ℕ} 0 1 = ap answers e in omega (arith, z)
  where
    answers : Result A Refusal → ℕ
    answers (Ok x) = 1
    answers (Err r) = 0

-- 16 is of too short a buffer alone
pub sixteen : (r : Refusal) → number_of r ≡ 16 → r ≡ BufferLength
sixteen SheetLength e = absurd (omega (arith, e))
sixteen Version e = absurd (omega (arith, e))
sixteen Flags e = absurd (omega (arith, e))
sixteen NoRecord e = absurd (omega (arith, e))
sixteen UnknownTag e = absurd (omega (arith, e))
sixteen OutOfOrder e = absurd (omega (arith, e))
sixteen TooMany e = absurd (omega (arith, e))
sixteen FieldsEnd e = absurd (omega (arith, e))
sixteen Name e = absurd (omega (arith, e))
sixteen Value e = absurd (omega (arith, e))
sixteen Reference e = absurd (omega (arith, e))
sixteen Repeated e = absurd (omega (arith, e))
sixteen Unfit e = absurd (omega (arith, e))
sixteen Unavailable e = absurd (omega (arith, e))
sixteen Bound e = absurd (omega (arith, e))
sixteen BufferLength e = refl
sixteen NoGlobal e = absurd (omega (arith, e))
sixteen ModuleFront e = absurd (omega (arith, e))
sixteen InstructionLength e = absurd (omega (arith, e))
sixteen InstructionForm e = absurd (omega (arith, e))
