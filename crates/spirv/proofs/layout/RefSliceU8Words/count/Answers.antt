-- A string's words are a quarter of its bytes and one more.
use mathlib.Core.Path.{sym}
use Rattle.spirv.proofs.Packed.{packed-length}
use Rattle.spirv.proofs.layout.RefSliceU8Words.count.Goals as goal

pub returns : goal.returns
returns c = sym (packed-length c.args.self.now)
