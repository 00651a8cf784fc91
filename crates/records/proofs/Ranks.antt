-- Which kind has a number.
use mathlib.Core.Path.{◌≡◌, refl}
use native.Mathlib.Omega.{arith}
use Rattle.std.specs.Prelude.{Some}
use Rattle.records.specs.declared.Rank.{Rank}
use Rattle.records.specs.declared.Rank.TheVariants.{Available, Remaps, Types, Functions, Constants, Globals}
use Rattle.records.specs.Ranks.{rank_number}

pub first_rank : (r : Rank) → rank_number (Some r) ≡ 1 → r ≡ Available
first_rank Available e = refl
first_rank Remaps e = absurd (omega (arith, e))
first_rank Types e = absurd (omega (arith, e))
first_rank Functions e = absurd (omega (arith, e))
first_rank Constants e = absurd (omega (arith, e))
first_rank Globals e = absurd (omega (arith, e))
