-- Demand 1, of the mission: "The answer to every sheet and every lent word buffer is the whole module or one refusal number of
-- document 01, and a refused call changes no word." And, of Check and Wrapped, that they answer nothing but what document 01 names.
use Rattle.std.specs.Prelude.{ℕ, ◌≤◌, ◌≡◌, Bool, ◌⊎◌, List, ◌++◌, length, drop}
use Rattle.definition.specs.State.{bound_of, module_words}
use Rattle.definition.specs.Tests.{fit}
use Rattle.definition.specs.Operations.{Progress, judged, Verdict, check, Answer, Written, Declared, declare, Wrapping, Wraps, wrapped}

-- a number that Check refuses by: 1 "under 6 bytes or over 16,384" to 15 "the bound would pass 4,194,303"
abbrev pub Refusal : ℕ → Type 0
Refusal n = (1 ≤ n) × (n ≤ 15)

-- ---- Declare

-- "the whole module": the sheet is fit, Declare "answers Written with word count and bound", the module's words stand at the
-- buffer's front, and "words past the count keep their old values"
pub record Whole (s b : List ℕ) (d : Declared) : Type 0 where
  pub progress : Progress
  pub fits : judged s ≡ fit progress
  pub answer : d.answer ≡ Written (length (module_words progress.state)) (bound_of progress.state)
  pub buffer : d.buffer ≡ module_words progress.state ++ drop (length (module_words progress.state)) b

-- "or one refusal number of document 01, and a refused call changes no word": "It refuses as Check, then 16"
pub record Unchanged (b : List ℕ) (d : Declared) : Type 0 where
  pub number : ℕ
  pub known : Refusal number ⊎ (number ≡ 16)
  pub answer : d.answer ≡ Answer.Refused number
  pub buffer : d.buffer ≡ b

-- "to every sheet and every lent word buffer"
abbrev pub Demand1 : Type 0
Demand1 = (s b : List ℕ) → Whole s b (declare s b) ⊎ Unchanged b (declare s b)

-- ---- the other operations, which are lent no buffer

-- "Check takes a sheet and answers Fit or one number"
abbrev pub CheckAnswers : Type 0
CheckAnswers = (s : List ℕ) → (check s ≡ Verdict.Fit) ⊎ ((n : ℕ) × Refusal n × (check s ≡ Verdict.Refused n))

-- Wrapped "refuses as Check, then 17 when there is no such global. Otherwise yes or no."
abbrev pub WrappedAnswers : Type 0
WrappedAnswers = (s : List ℕ) (k : ℕ) → ((y : Bool) × (wrapped s k ≡ Wraps y)) ⊎ ((n : ℕ) × (Refusal n ⊎ (n ≡ 17)) × (wrapped s k ≡ Wrapping.Refused n))
