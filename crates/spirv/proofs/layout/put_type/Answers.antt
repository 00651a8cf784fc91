-- `put_type` meets its contract. The words of an instruction do not tell its result id from its operands, so it is the plain one's
-- by another name: `as_type`.
use native.Mathlib.Omega.{arith}
use Rattle.spirv.proofs.Heads.{as_type}
use Rattle.spirv.proofs.layout.put_type.Goals as goal

pub returns : goal.returns
returns g c =
    let a = c.args in
    as_type (g.O.Word.as_word a.op) a.operands.now (omega arith) c.put_plain.ensures
