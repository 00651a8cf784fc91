-- Words put into a buffer at a place.
use Rattle.std.specs.Prelude.{ℕ, ◌+◌, List, ◌++◌, length, take, drop}

-- the buffer with the words at a place, and all else as it was
abbrev pub splice : List ℕ → ℕ → List ℕ → List ℕ
splice xs at ws = take at xs ++ ws ++ drop (at + length ws) xs
