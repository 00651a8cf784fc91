-- A word behind those in use changes nothing that is held.
use Prim.Native.Nat.{◌+◌}
use mathlib.Core.List.{[], ◌∷◌}
use mathlib.Core.Path.{refl}
use native.Mathlib.Omega.{arith}
use lib.Seq.{sets-eq}
use Rattle.writer.specs.Regions.{declarations}
use Rattle.writer.proofs.Words.{end_of, pending}
use Rattle.writer.proofs.Writer.put_pending.Goals as goal

pub returns : goal.returns
returns c =
    let a = c.args in
    let w = a.self.now in
    pending w a.k (a.x ∷ []) _ (end_of declarations w.used + a.k) refl (sets-eq (a.x ∷ []) w.sections.now (end_of declarations w.used + a.k) (omega (arith, c.requires))) c.requires
