-- What the program prints: of each global of a sheet, in order, whether it is wrapped, or the number by which the sheet is
-- refused.
use Rattle.std.specs.Prelude.{ℕ, zero, suc, List, [], ◌++◌}
use Rattle.definition.specs.Tests.{globals_most}
use Rattle.definition.specs.Operations.{Verdict, Fit, check, Wrapping, Wraps, wrapped}
use Rattle.printing.specs.Text.{yes_or_no, refusal_of}

-- a global's line and those that follow it; none where there is no such global
abbrev pub line_and : Wrapping → List ℕ → List ℕ
line_and (Wraps y) lines = yes_or_no y ++ lines
line_and (Wrapping.Refused n) lines = []

-- the lines of at most k globals, from global i on
unfoldable pub answers_from : List ℕ → ℕ → ℕ → List ℕ
answers_from s zero i = []
answers_from s (suc k) i = line_and (wrapped s i) (answers_from s k (suc i))

-- those of all globals
abbrev pub answers : List ℕ → List ℕ
answers s = answers_from s globals_most 0

abbrev pub text_of : Verdict → List ℕ → List ℕ
text_of Fit lines = lines
text_of (Verdict.Refused n) lines = refusal_of n

-- what is printed for a sheet
abbrev pub answer_to : List ℕ → List ℕ
answer_to s = text_of (check s) (answers s)
