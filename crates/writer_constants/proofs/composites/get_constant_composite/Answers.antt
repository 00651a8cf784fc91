-- A composite is there already, or it is new: Ways has both.
use Rattle.lookup.specs.Local.{key_of}
use Rattle.writer_constants.proofs.Ways.{composite_old, composite_new}
use Rattle.writer_constants.proofs.composites.get_constant_composite.Goals as goal

pub returns-in-Some : goal.returns-in-Some
returns-in-Some c =
    let a = c.args in
    let k = c.key-k.ensures in
    let x = c.find_composite in composite_old (key_of a.ty) k.1 k.0 a.n a.w.now x.result x.ensures c.in-Some.id c.in-Some.is

pub returns-in-None : goal.returns-in-None
returns-in-None c =
    let a = c.args in
    let k = c.key-k.ensures in
    let x = c.find_composite in
    composite_new (key_of a.ty) k.1 k.0 a.n a.w.now x.result x.ensures c.in-None.is c.take_id-id.ensures c.get_type_id-type_id.ensures c.declare_composite.ensures c.enter_composite.ensures
