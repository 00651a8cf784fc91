-- A law of `Modules` for each answer: 16 (`short`), the module (`written`).
use mathlib.Core.Path.{refl}
use native.Mathlib.Omega.{arith}
use Rattle.module_layout.proofs.Modules.{short, written}
use Rattle.module_layout.proofs.write_module.Goals as goal

pub returns-then-out-n : goal.returns-then-out-n
returns-then-out-n c =
    short c.args.w.now c.args.out.now (omega (arith, c.if-last-ge-BOUND_MOST.false)) c.requires.room (omega (arith, c.if-out-n.true, c.module_count-n.ensures))

pub returns : goal.returns
returns c =
    written c.args.w.now c.args.out.now (omega (arith, c.if-last-ge-BOUND_MOST.false)) c.requires.room _ _ _ _ refl c.module_count-n.ensures c.if-out-n.false c.requires.few c.put_module.ensures
