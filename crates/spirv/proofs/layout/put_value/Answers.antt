-- `put_value` meets its contract. The words of an instruction do not tell its type and result id from its operands, so it is the plain one's
-- by another name: `as_value`.
use native.Mathlib.Omega.{arith}
use Rattle.spirv.proofs.Heads.{as_value}
use Rattle.spirv.proofs.layout.put_value.Goals as goal

pub returns : goal.returns
returns g c =
    let a = c.args in
    as_value (g.O.Word.as_word a.op) a.operands.now (omega arith) c.put_plain.ensures
