-- What the tests of a record look at.
use Rattle.std.specs.Prelude.{ℕ, ◌+◌, ◌≤◌, ◌≡◌, List, map, length, take}
use Rattle.definition.specs.Tests.{Seen, types_most}
use Rattle.records.specs.Counted.{Counted}
use Rattle.records.specs.Places.{remap_from, type_from}
use Rattle.records.specs.declared.Counts.{Counts}
use Rattle.sheet.specs.Hash.{Hashed}

-- what was read has these counts, these remaps and these types; a record's tests look at no more
pub record Looked (s rs ts : List ℕ) (k : Counts) (n : Seen) : Type 0 where
  pub counted : Counted n k
  pub remaps : n.remaps ≡ map (remap_from s) (take k.remaps rs)
  pub types : n.types ≡ map (type_from s) (take k.types ts)

-- the slices have the places of what was read, and the types' hashes
pub record Stored (s rs ts : List ℕ) (k : Counts) : Type 0 where
  pub remaps : k.remaps ≤ length rs
  pub types : types_most + k.types ≤ length ts
  pub hashed : Hashed s ts k.types
