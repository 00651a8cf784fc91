-- Parts that stand behind those in use.
use Rattle.std.specs.Prelude.{ℕ, ◌≡◌, List}
use Rattle.definition.specs.State.{State}
use Rattle.writer.specs.declared.Writer.{Writer}
use Rattle.writer.specs.Held.{HeldIn, Held, HeldByTables, SameLent}
use Rattle.writer.specs.Steps.{staged}

-- the same state is held, and the n parts are those that the state gives, whatever stands in the sections
pub record Staged (n : ℕ) (ps : State → List ℕ) (w v : Writer) : Type 0 where
  pub lent : SameLent w v
  pub used : v.used ≡ w.used
  pub sections : v.sections.now ≡ w.sections.now
  pub held : (s : State) → Held w s → Held v s
  pub apart : (S : List ℕ) (s : State) → HeldIn w.used w.tables.now S s → HeldIn v.used v.tables.now S s
  pub parts : (s : State) → HeldByTables w s → staged n v ≡ ps s
