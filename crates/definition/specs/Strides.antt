-- Paper 4: the nine column strides as the table that the crews carry, and what is claimed of them. The rules keep document 01's
-- formula, `Rules.column_stride`; the claims are proved in proofs/Strides.antt.
use Rattle.std.specs.Prelude.{ℕ, ◌≡◌, true, List, [], ◌∷◌, map}
use Rattle.std.specs.Prelude.{Some}
use Rattle.definition.specs.Sheet.{Matrix}
use Rattle.definition.specs.Tests.{fit, inner_fits}
use Rattle.definition.specs.Rules.{inner_at, column_stride, matrix_stride}
use Rattle.definition.specs.Operations.{Progress, judged}

-- "three row counts by three widths"
abbrev pub row_counts : List ℕ
row_counts = 2 ∷ 3 ∷ 4 ∷ []

abbrev pub widths : List ℕ
widths = 2 ∷ 4 ∷ 8 ∷ []

-- "a table of nine numbers": a line for each row count, in it a number for each width
abbrev pub stride_table : List (List ℕ)
stride_table =
    (4 ∷ 8 ∷ 16 ∷ [])
    ∷ (8 ∷ 16 ∷ 32 ∷ [])
    ∷ (8 ∷ 16 ∷ 32 ∷ [])
    ∷ []

-- what a function of rows and width gives, as such a table
abbrev pub tabled : (ℕ → ℕ → ℕ) → List (List ℕ)
tabled f = map (λ rows. map (f rows) widths) row_counts

-- the nine are the formula's
abbrev pub TableAgrees : Type 0
TableAgrees = tabled column_stride ≡ stride_table

-- the rules' stride of a matrix that test 10 lets through is the formula's
abbrev pub FormulaWhereFit : Type 0
FormulaWhereFit = (c r w : ℕ) → inner_fits (Matrix c r w) ≡ true → matrix_stride (Matrix c r w) ≡ Some (column_stride r w)

-- "Every stride comes out as before": so it is of every matrix of a sheet that Check fits
abbrev pub StridesAsBefore : Type 0
StridesAsBefore =
    (s : List ℕ) (p : Progress) → judged s ≡ fit p
    → (t c r w : ℕ) → inner_at p.seen.types t ≡ Matrix c r w → matrix_stride (Matrix c r w) ≡ Some (column_stride r w)
