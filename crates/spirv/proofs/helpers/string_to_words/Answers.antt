-- The packed words are those of the bytes four by four, and a last one (`packed_chunks`); that one is put behind the others by `one_more`.
use Rattle.std.proofs.Common.{[], ◌∷◌, ◌++◌, ◌/◌, ◌≡◌, length, map, refl, sym, ap, ◌∙◌, arith}
use Rattle.std.proofs.lemmas.List.{length-map}
use Rattle.definition.specs.Instructions.{packed}
use Rattle.spirv.specs.Bytes.{word_of}
use Rattle.spirv.proofs.Puts.{nothing, one_more}
use Rattle.spirv.proofs.Packed.{packed-length, packed_chunks}
use Rattle.spirv.proofs.helpers.string_to_words.Goals as goal

pub returns-then-sink-n : goal.returns-then-sink-n
returns-then-sink-n c =
    let a = c.args in
    nothing (packed a.bytes.now) a.sink.now (omega (arith, packed-length a.bytes.now, c.as_chunks.ensures.front_len, c.if-sink-n.true))

pub returns : goal.returns
returns c =
    let a = c.args in
    let q = c.as_chunks in
    let w = c.bytes_to_word in
    let ws = map word_of q.result.0.now in
    let l = length-map q.result.0.now word_of in
    let f = sym q.ensures.front in
    let g = sym (w.ensures ∙ ap word_of q.ensures.back) in
    let e : packed a.bytes.now ≡ ws ++ w.result ∷ [] = packed_chunks (length a.bytes.now / 4) a.bytes.now refl ∙ (λ j. map word_of (f j) ++ g j ∷ []) in
    let p = one_more ws a.sink.now c.put_each.new.sink c.put_each.result c.put_each.ensures (omega (arith, l, c.if-sink-n.false)) w.result (omega (arith, l, c.if-sink-n.false)) in
    rw e (rw l at p)
