-- After some words h is the definition's number of so many (`Hashing`); the last, which may not be whole, comes behind the loop.
use Rattle.std.proofs.Common.{◌≡◌}
use Rattle.std.specs.Slice.Iter.{chunks_exact_rest, chunks_exact_size}
use Rattle.sheet.proofs.Hashing.{Hashing}
use Rattle.sheet.proofs.hash.hash_of.Given as goal

abbrev pub invariant-loop-word : goal.invariant-loop-word
invariant-loop-word l = record { fours : chunks_exact_size l.word-iterator ≡ 4; hashing : Hashing l.b l.t l.h (chunks_exact_rest l.word-iterator) }
