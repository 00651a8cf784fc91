-- The plan has what the rules read, and the global is declared by it.
use Rattle.records.specs.Places.{types_in, remaps_in}
use Rattle.writer_globals.proofs.write_global.Goals as goal

pub returns : goal.returns
returns c =
    let a = c.args in
    let ts = types_in a.types in
    let rs = remaps_in a.remaps in
    c.write_global_variable.ensures ts rs a.options.zeroing (c.plan_of-plan.ensures a.body.now)
