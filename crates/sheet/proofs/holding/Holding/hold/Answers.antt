-- What the two callees leave is what was held, with the record added; the slices keep their lengths.
use mathlib.Core.Path.{◌∙◌, ap}
use Rattle.definition.specs.Sheet.{record_at, tag_rank}
use Rattle.sheet.proofs.Adding.{held}
use Rattle.sheet.proofs.holding.Holding.hold.Goals as goal

pub returns-clause-held : goal.returns-clause-held
returns-clause-held c =
    let rest = c.rest_at-rest.ensures in
    let kept = c.note.ensures.same in
    held _ _ _ _ _ _ _ _ c.requires.0 (c.rank_of-rank.ensures ∙ ap tag_rank (c.tag_of.ensures ∙ ap (λ r. (record_at r).tag) rest)) c.requires.1
    c.note.ensures.noted (rw c.note.ensures.counts at c.added-self.ensures) kept.remaps_long kept.types_long kept.constants_long kept.globals_long
