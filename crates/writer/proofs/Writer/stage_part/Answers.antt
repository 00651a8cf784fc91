-- One store is a splice of one id.
use Prim.Native.Nat.{ℕ, ◌+◌}
use mathlib.Core.List.{List, [], ◌∷◌}
use mathlib.Core.Path.{ap}
use native.Mathlib.Omega.{arith}
use lib.Seq.{sets-eq}
use Rattle.writer.proofs.Staged.{waiting}
use Rattle.writer.proofs.Writer.stage_part.Goals as goal

pub returns : goal.returns
returns c = let a = c.args in let w = a.self.now in
    ap (λ (t : List ℕ). record w { tables = record w.tables { now = t } }) (sets-eq (a.id ∷ []) w.tables.now (waiting w + a.i) (omega arith))
