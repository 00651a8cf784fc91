-- Void is there already, or it is new: Ways has both. It has no parts, so nothing has to wait for it.
use mathlib.Core.Path.{refl}
use Rattle.definition.specs.Instructions.{type_void}
use Rattle.definition.specs.State.{void}
use Rattle.writer_functions.specs.Written.{void_cost}
use Rattle.writer_functions.proofs.Ways.{shared_old, shared_new}
use Rattle.writer_functions.proofs.get_void_type.Goals as goal

pub returns-in-Some : goal.returns-in-Some
returns-in-Some c = shared_old void tt type_void 0 refl c.args.w.now refl c.find_composite.result c.find_composite.ensures void_cost c.in-Some.id c.in-Some.is

pub returns-in-None : goal.returns-in-None
returns-in-None c = shared_new void tt type_void 0 refl c.args.w.now refl c.find_composite.result c.find_composite.ensures c.in-None.is c.take_id-id.ensures c.type_void.ensures c.enter_composite.ensures
