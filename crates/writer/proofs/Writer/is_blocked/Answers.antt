-- The slice is the ids in use, and what `contains` finds there is the definition's.
use mathlib.Core.Path.{sym, ap, ◌∙◌}
use Rattle.writer.specs.Rows.{is_listed}
use Rattle.writer.specs.Regions.{blocked_at}
use Rattle.writer.proofs.Words.{is_any}
use Rattle.writer.proofs.Parts.{lent}
use Rattle.writer.proofs.Blocks.{finds_block}
use Rattle.writer.proofs.Writer.is_blocked.Goals as goal

pub returns : goal.returns
returns c = let a = c.args in let w = a.self.now in
    finds_block a.id w c.contains.result (c.contains.ensures.value ∙ sym (is_any a.id _) ∙ ap (is_listed a.id) (lent w.tables.now (blocked_at w.used) w.used.blocked))
