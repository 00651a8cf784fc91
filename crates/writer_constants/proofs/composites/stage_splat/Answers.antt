use Prim.Native.Nat.{ℕ}
use mathlib.Core.Path.{◌≡◌, subst}
use native.Mathlib.Omega.{arith}
use Rattle.writer.specs.Staged.{Staged}
use Rattle.writer_constants.proofs.Staging.{repeated, splat_more}
use Rattle.writer_constants.proofs.composites.stage_splat.Goals as goal

pub loop-i-preserved : goal.loop-i-preserved
loop-i-preserved c = rw c.stage_part.ensures (splat_more c.args.id c.loop-i.invariant (omega (arith, c.requires, c.loop-i-test.true)))

pub returns : goal.returns
returns c =
    let a = c.args in
    let all : c.loop-i.i ≡ a.n = omega (arith, c.loop-i.auto.i-end, c.loop-i-test.false) in
    subst (λ (i : ℕ). Staged i (repeated a.id i) a.w.now c.loop-i.w) all c.loop-i.invariant
