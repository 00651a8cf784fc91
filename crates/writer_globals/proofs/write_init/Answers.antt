-- A constant of the sheet, no init, or the null of the type: one way out for each. The type is an entry, and finding it changes nothing.
use Rattle.finding.proofs.Entries.{entry_got}
use Rattle.writer_globals.proofs.Inits.{null_init}
use Rattle.writer_globals.proofs.write_init.Goals as goal

pub returns-else-not-null : goal.returns-else-not-null
returns-else-not-null c = let a = c.args in let f = c.type_id-x in
    null_init a.init a.null a.ty c.in-None.is c.if-not-null.false (entry_got a.ty a.w.now f.result f.ensures) c.get_constant_null.ensures
