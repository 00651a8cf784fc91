-- The return type's id is the first part, and each step stages one more.
use native.Mathlib.Omega.{arith}
use Rattle.writer_functions.proofs.Signatures.{signature_none, signature_more}
use Rattle.writer_functions.proofs.stage_signature.Goals as goal

pub loop-i-init : goal.loop-i-init
loop-i-init c = let a = c.args in rw c.stage_part.ensures (signature_none a.body.now a.res a.w.now (omega (arith, c.requires)))

pub loop-i-preserved : goal.loop-i-preserved
loop-i-preserved c = let a = c.args in let l = c.loop-i in
    rw c.stage_part-in-loop-i.ensures (signature_more a.body.now a.res l.i l.invariant (omega (arith, c.requires, c.loop-i-test.true)) c.type_id-id.result (rw c.u16_at-ty.ensures at c.type_id-id.ensures))
