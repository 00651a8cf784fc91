-- The head's words behind those in use change nothing that is held.
use native.Mathlib.Omega.{arith}
use Rattle.spirv.specs.Heads.{struct_head}
use Rattle.spirv.proofs.Puts as Puts
use Rattle.writer.specs.Regions.{declarations}
use Rattle.writer.proofs.Words.{end_of, pending}
use Rattle.writer.proofs.Writer.type_struct_head.Goals as goal

pub returns : goal.returns
returns c =
    let a = c.args in
    let w = a.self.now in
    let z = c.type_struct_head in
    let h = struct_head c.low_word.result a.count in
    rw (← c.low_word.ensures) (pending w 0 h _ (end_of declarations w.used) (omega arith) (Puts.lent w.sections.now (end_of declarations w.used) h z.new.sink z.result z.ensures (omega (arith, c.requires.1))) (omega (arith, c.requires.1)))
