-- What the program's counts say of what has been read.
use Rattle.std.specs.Prelude.{◌≡◌, length}
use Rattle.definition.specs.Tests.{Seen, present}
use Rattle.records.specs.declared.Counts.{Counts}

-- the counts are those of n
pub record Counted (n : Seen) (k : Counts) : Type 0 where
  pub rank : n.rank ≡ k.rank
  pub available : present n.available ≡ present k.available
  pub remaps : length n.remaps ≡ k.remaps
  pub types : length n.types ≡ k.types
  pub functions : length n.functions ≡ k.functions
  pub constants : length n.constants ≡ k.constants
  pub globals : length n.globals ≡ k.globals
