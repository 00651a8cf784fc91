use Rattle.std.proofs.Common.{map, length, sym, ap, ◌∙◌, arith}
use Rattle.std.proofs.lemmas.List.{length-map, get_or-map}
use Rattle.spirv.proofs.Puts.{nothing, laid_more, laid_all}
use Rattle.spirv.proofs.words.put_each.Goals as goal

pub returns-then-sink-items : goal.returns-then-sink-items
returns-then-sink-items g c =
    let f = g.W.Word.as_word in
    nothing (map f c.args.items.now) c.args.sink.now (omega (arith, length-map c.args.items.now f, c.if-sink-items.true))

pub loop-i-preserved : goal.loop-i-preserved
loop-i-preserved g c =
    let f = g.W.Word.as_word in let xs = c.args.items.now in let l = c.loop-i in let n = length-map xs f in
    let e = c.word.ensures ∙ ap f c.index-items-i.is ∙ sym (get_or-map f xs l.i c.index-items-i.result 0 c.loop-i-test.true) in
    laid_more (map f xs) c.args.sink.now l.sink l.i l.invariant c.word.result (omega (arith, n, c.loop-i-test.true)) (omega (arith, c.loop-i-test.true, c.if-sink-items.false)) e

pub returns : goal.returns
returns g c =
    let f = g.W.Word.as_word in let xs = c.args.items.now in let l = c.loop-i in
    laid_all (map f xs) c.args.sink.now l.sink l.i l.invariant (length xs) (omega (arith, l.auto.i-end, c.loop-i-test.false)) (sym (length-map xs f)) c.if-sink-items.false
