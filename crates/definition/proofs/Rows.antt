-- What the computed test of the examples says of each row.
use mathlib.Core.List.{Memᴰ}
use lib.Dec.{T}
use Rattle.definition.specs.Examples.{Row, right, rows, examples}
use Rattle.definition.proofs.Truth.{every_one}

-- each row of the table is right
pub each_row : (r : Row) → Memᴰ r rows → T (right r)
each_row r m = every_one right rows examples r m
