-- The head, and the rest into the part behind it: `behind` joins the two, and `as_plain` makes them the instruction.
use Prim.Native.Nat.{ℕ, ◌+◌}
use mathlib.Core.List.{◌++◌}
use native.Mathlib.Omega.{arith}
use lib.ListN.{length, length-append}
use Rattle.spirv.specs.Heads.{head}
use Rattle.spirv.proofs.Puts.{behind}
use Rattle.spirv.proofs.Heads.{as_plain, no_room}
use Rattle.spirv.proofs.layout.put_list.Goals as goal

pub returns-then-sink-n : goal.returns-then-sink-n
returns-then-sink-n g c =
    let a = c.args in
    no_room (g.O.Word.as_word a.op) (length a.operands.now + 1 + c.count.result) (a.operands.now ++ g.W.Words.words_of a.more) a.sink.now (simp length-append (omega (arith, c.count.ensures))) c.if-sink-n.true

pub returns : goal.returns
returns g c =
    let a = c.args in
    let w = c.put_head in
    let z = c.put in
    let xs = g.W.Words.words_of a.more in
    let at : ℕ = length a.operands.now + 1 in
    let n : ℕ = at + c.count.result in
    as_plain (g.O.Word.as_word a.op) (a.operands.now ++ xs) n (simp length-append (omega (arith, c.count.ensures)))
    (behind (head n (g.O.Word.as_word a.op) a.operands.now) xs a.sink.now w.new.sink z.new.sink w.result at z.result n w.ensures (omega arith) z.ensures (omega (arith, c.count.ensures)) c.if-sink-n.false)
