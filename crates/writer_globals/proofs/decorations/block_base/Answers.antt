-- The base is found, which changes nothing, and decorated.
use mathlib.Core.Bool.{true}
use mathlib.Core.Path.{◌≡◌}
use lib.Dec.{eqb}
use Rattle.kinds.specs.Numbers.{space_number}
use Rattle.finding.proofs.Entries.{entry_got}
use Rattle.writer_globals.proofs.Notes.{on_base}
use Rattle.writer_globals.proofs.decorations.block_base.Goals as goal

pub returns-in-Some : goal.returns-in-Some
returns-in-Some c =
    let a = c.args in
    let b = c.in-Some in
    let f = c.type_id-x in
    let s : eqb (space_number a.space) 4 ≡ true = cc in
    on_base (eqb (space_number a.space) 4) a.base s b.is (entry_got b.b a.w.now f.result f.ensures) c.block_once.ensures
