-- What test 13 of a global answers.
use Rattle.std.specs.Prelude.{ℕ, ◌≡◌, Bool, List}
use Rattle.definition.specs.Sheet.{TypeEntry, Global}
use Rattle.definition.specs.State.{State}
use Rattle.definition.specs.Unfit.{global_fits}
use Rattle.zeroable.specs.Memo.{Memo}
use Rattle.writer.specs.declared.Writer.{Writer}
use Rattle.writer.specs.Held.{HeldByTables}

-- the answer is the definition's, whatever state the tables hold, and the memo still holds of the types
pub record TestsGlobal (ts : List TypeEntry) (g : Global) (w : Writer) (r : Bool) (m : List ℕ) : Type 0 where
  pub held : (s : State) → HeldByTables w s → r ≡ global_fits ts s g
  pub memo : Memo ts m
