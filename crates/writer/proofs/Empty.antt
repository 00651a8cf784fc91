-- A writer of which nothing is in use holds the empty state, whatever stands in its slices.
use Prim.Native.Nat.{ℕ}
use mathlib.Core.Path.{◌≡◌, refl}
use Rattle.definition.specs.Instructions.{all_words}
use Rattle.definition.specs.Rules.{blocked}
use Rattle.writer.specs.declared.Writer.{Writer}
use Rattle.writer.specs.Rows.{table_rows}
use Rattle.writer.specs.Held.{all_parts}
use Rattle.writer.specs.Steps.{none_used, Fresh}

pub fresh : (records bytes start : ℕ) (w : Writer) → w.used ≡ none_used records bytes start → Fresh records bytes start w
unfolding table_rows all_parts all_words blocked
fresh records bytes start w e = record { used = e; held = rw e (record { last = refl; tables = refl; small = record { keys = tt; composed = tt; kinds = tt }; sections = refl }) }
