-- What a writer into a lent buffer promises.
use Rattle.std.specs.Prelude.{ℕ, ◌<◌, ◌≡◌, List, length}
use Rattle.definition.specs.Instructions.{put, put_count}

-- the words were put at the front of a buffer, and n is how many; none where they do not fit
pub record Put (ws before after : List ℕ) (n : ℕ) : Type 0 where
  pub words : after ≡ put ws before
  pub count : n ≡ put_count ws before

-- few enough operands that an instruction's word count stays within its 16 bits, with the at most four words before them
abbrev pub FitsWordCount : List ℕ → Type 0
FitsWordCount xs = length xs < 65532
