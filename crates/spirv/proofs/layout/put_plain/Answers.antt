-- `put_plain` meets its contract. A head with all the operands behind it, and a count of one more than they are, is the
-- instruction: `as_plain`.
use Prim.Native.Nat.{◌+◌}
use mathlib.Core.Path.{refl}
use lib.ListN.{length}
use Rattle.spirv.proofs.Heads.{as_plain}
use Rattle.spirv.proofs.layout.put_plain.Goals as goal

pub returns : goal.returns
returns g c =
    let a = c.args in
    as_plain (g.O.Word.as_word a.op) a.operands.now (length a.operands.now + 1) refl c.put_head.ensures
