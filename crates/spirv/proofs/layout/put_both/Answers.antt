-- The head, and the rest into the part behind it: `behind` joins the two.
use Prim.Native.Nat.{ℕ, ◌+◌}
use mathlib.Core.List.{◌++◌}
use mathlib.Core.Path.{refl}
use native.Mathlib.Omega.{arith}
use lib.ListN.{length, length-append}
use Rattle.spirv.proofs.Puts.{nothing, behind}
use Rattle.spirv.proofs.layout.put_both.Goals as goal

pub returns-then-sink-n : goal.returns-then-sink-n
returns-then-sink-n g c =
    let a = c.args in
    nothing (a.head.now ++ g.W.Words.words_of a.rest) a.sink.now (simp length-append (omega (arith, c.count.ensures, c.if-sink-n.true)))

pub returns : goal.returns
returns g c =
    let a = c.args in
    let w = c.put_words in
    let z = c.put in
    let xs = g.W.Words.words_of a.rest in
    let n : ℕ = length a.head.now + c.count.result in
    behind a.head.now xs a.sink.now w.new.sink z.new.sink w.result (length a.head.now) z.result n w.ensures refl z.ensures (omega (arith, c.count.ensures)) c.if-sink-n.false
