-- What the callees leave is a record's declaring (`record_written`), once the numbers read are the body's.
use Rattle.writer_functions.proofs.Ways.{record_written}
use Rattle.writer_functions.proofs.write_function_type.Goals as goal

pub returns : goal.returns
returns c = record_written c.args.body.now (rw c.u16_at.ensures at c.return_type_id-res.ensures) (rw c.u8_at-n.ensures at c.stage_signature.ensures) (rw c.u8_at-n.ensures at c.get_function_type.ensures)
