-- A buffer of one word is too short for any module (`checked`).
use Rattle.declarations.proofs.Laws.{checked}
use Rattle.declarations.specs.Promise.{CheckPromise}
use Rattle.std.specs.Prelude.{Result}
use Rattle.refusals.specs.declared.Refusal.{Refusal}
use mathlib.Core.List.{[], ◌∷◌}
use mathlib.Core.Path.{sym, subst}
use native.Mathlib.Omega.{arith}
use Rattle.declarations.proofs.check.Goals as goal

pub returns : goal.returns
returns c = let s = c.args.sheet.now in let d = c.declare-a in
    subst (λ (v : Result (Unit {0}) Refusal). CheckPromise s v) (sym c.verdict_of.ensures) (checked s (0 ∷ []) d.result d.new.words (omega arith) d.ensures.same)
