-- A string's words are fewer than its bytes, or one.
use native.Mathlib.Omega.{arith}
use Rattle.spirv.proofs.Packed.{packed-length}
use Rattle.spirv.proofs.instructions.name.Goals as goal

pub put_list-requires : goal.put_list-requires
put_list-requires c = (omega arith, omega arith, omega (arith, c.requires, packed-length c.args.bytes.now))
