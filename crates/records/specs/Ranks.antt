-- "Rank rises as listed": the numbers that the definition gives to the kinds of records; 0 is no tag.
use Rattle.std.specs.Prelude.{ℕ, Option, Some, None}
use Rattle.records.specs.declared.Rank.{Rank}
use Rattle.records.specs.declared.Rank.TheVariants.{Available, Remaps, Types, Functions, Constants, Globals}

abbrev pub rank_number : Option Rank → ℕ
rank_number None = 0
rank_number (Some Available) = 1
rank_number (Some Remaps) = 2
rank_number (Some Types) = 3
rank_number (Some Functions) = 4
rank_number (Some Constants) = 5
rank_number (Some Globals) = 6
