-- The type's id is what the definition finds, so the value entered is the definition's.
use Rattle.writer_constants.proofs.Entering.{found_entered}
use Rattle.writer_constants.proofs.expressions.enter_found.Goals as goal

pub returns : goal.returns
returns c = found_entered c.type_id-ty.ensures c.enter_value.ensures
