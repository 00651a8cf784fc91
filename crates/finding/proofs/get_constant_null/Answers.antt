-- The two ways of Ways: an old null, or a new one.
use Rattle.finding.proofs.Ways.{null_old, null_new}
use Rattle.finding.proofs.get_constant_null.Goals as goal

pub returns-in-Some : goal.returns-in-Some
returns-in-Some c = let a = c.args in null_old a.ty a.w.now c.find_null.result c.find_null.ensures c.in-Some.id c.in-Some.is

pub returns-in-None : goal.returns-in-None
returns-in-None c = let a = c.args in null_new a.ty a.w.now c.find_null.result c.find_null.ensures c.in-None.is c.take_id-id.ensures c.constant_null.ensures c.enter_null.ensures
