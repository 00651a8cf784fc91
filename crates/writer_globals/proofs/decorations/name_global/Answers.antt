-- The name is no longer than its length byte says, so that the room up to the name's end is enough.
use Rattle.writer_globals.proofs.Notes.{labelled}
use Rattle.writer_globals.proofs.decorations.name_global.Goals as goal

pub returns-then-k : goal.returns-then-k
returns-then-k c =
    let a = c.args in
    labelled a.debug a.id a.body.now c.if-not-debug.false c.u8_at-k.ensures c.if-k.true c.part.ensures c.label.ensures
