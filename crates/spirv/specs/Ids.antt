-- Ids are given out one after the other, and taken as words.
use Rattle.std.specs.Prelude.{ℕ, ◌+◌, ◌%◌, ◌≡◌}
use Rattle.spirv.specs.declared.NextId.{NextId}

-- the id behind the last, which is now the last
pub record Next (given : ℕ) (r : NextId) : Type 0 where
  pub id : r.id ≡ given + 1
  pub last : r.idgen.last ≡ given + 1

-- a number as a word
abbrev pub low : ℕ → ℕ
low x = x % 4294967296
