-- What the callees promise, in the order of the calls, and what the plan was read for.
use Rattle.writer_globals.proofs.Whole.{declared}
use Rattle.writer_globals.proofs.write_global_variable.Goals as goal

pub returns : goal.returns
returns c =
    let a = c.args in
    λ ts rs zeroing q.
    declared (record { debug = a.debug; zeroing = zeroing }) ts rs a.b.now a.g c.take_id-id.ensures c.name_global.ensures.kept q.access c.decorate_access.ensures.kept c.decorate_binding.ensures.kept a.plan.form q.form c.write_pointer-pointer.ensures
    q.base c.block_base.ensures q.null c.write_init-init.ensures c.map_storage_class-class.ensures c.variable.ensures
