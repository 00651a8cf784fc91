-- One section behind the other, each in what is left of the buffer behind those before (`module_put`).
use Rattle.module_layout.proofs.Modules.{module_put}
use Rattle.module_layout.proofs.put_module.Goals as goal

pub returns : goal.returns
returns c =
    let e = c.args in
    module_put e.u e.sections.now e.bound e.out.now c.requires.0.room c.requires.1 _ _ _ _ _ _ _ _ c.put_front-first.ensures c.put_section.ensures c.put_section-2.ensures c.put_section-3.ensures
