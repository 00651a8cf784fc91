-- The global of a record's body, and what tests 8, 10 and 11 have shown of it.
use Rattle.std.specs.Prelude.{ℕ, ◌<◌, ◌≡◌, true, List, length}
use Rattle.definition.specs.Bytes.{name_end}
use Rattle.definition.specs.Sheet.{Global, global_fields, global}
use Rattle.definition.specs.Tests.{values_fit}

-- the global whose body it is
abbrev pub global_in : List ℕ → Global
global_in b = (global_fields b (name_end b 0)).value

-- the record is whole, its values fit, and its type is one of the first n
pub record GlobalTested (n : ℕ) (b : List ℕ) : Type 0 where
  pub whole : (global_fields b (name_end b 0)).end ≡ length b
  pub values : values_fit (global (global_in b)) ≡ true
  pub type : (global_in b).type < n
