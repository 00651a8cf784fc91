-- The word that a string's bytes make.
use Rattle.std.specs.Prelude.{ℕ, List, get_or}
use Rattle.definition.specs.Instructions.{little_endian}

-- the first four bytes as one word; where there are fewer, zeros stand for them
abbrev pub word_of : List ℕ → ℕ
word_of t = little_endian (get_or t 0 0) (get_or t 1 0) (get_or t 2 0) (get_or t 3 0)
