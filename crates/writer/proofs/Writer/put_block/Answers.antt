-- Words and id are put by one law (`put_block`); how many words there are is known from what was put.
use Rattle.writer.proofs.Blocks.{few, put_block}
use Rattle.writer.specs.Regions.{blocked_at}
use Prim.Native.Nat.{◌+◌}
use mathlib.Core.List.{[], ◌∷◌}
use lib.Seq.{sets-eq}
use native.Mathlib.Omega.{arith}
use Rattle.writer.proofs.Writer.put_block.Goals as goal

pub overflow_add-self : goal.overflow_add-self
overflow_add-self c = let a = c.args in
    omega (arith, c.well_formed, c.requires, few a.id a.self.now c.requires c.low_word.result c.low_word.ensures _ _ c.decorate-n.ensures)

pub returns : goal.returns
returns c = let a = c.args in let w = a.self.now in
    put_block a.id w c.requires c.low_word.result c.low_word.ensures _ _ c.decorate-n.ensures _ (sets-eq (a.id ∷ []) w.tables.now (blocked_at w.used + w.used.blocked) (omega (arith, c.requires)))
