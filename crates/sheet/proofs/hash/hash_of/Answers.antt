use Rattle.std.proofs.Common.{◌∙◌, refl, arith}
use Rattle.std.specs.Slice.Iter.{chunks_exact_rest}
use Rattle.sheet.proofs.Hashing.{none_yet, a_word, the_last}
use Rattle.sheet.proofs.hash.hash_of.Goals as goal

pub loop-word-init : goal.loop-word-init
loop-word-init c =
    let i = c.chunks_exact-word-items.ensures in
    rw (c.into_iter-word-iterator.ensures.into_iter_gives) (record { fours = i.size; hashing = rw i.rest (none_yet c.args.b.now c.args.t) })

pub loop-word-preserved : goal.loop-word-preserved
loop-word-preserved c =
    let a = c.args in
    let l = c.loop-word in
    let x = c.in-Some.ensures.steps in
    record {
      fours = x.0 ∙ l.invariant.fours;
      hashing = a_word a.b.now a.t l.h (chunks_exact_rest l.word-iterator) l.invariant.hashing c.in-Some.word.now (chunks_exact_rest c.next.new.self) x.1.0 (x.1.1 ∙ l.invariant.fours)
          c.whole_u32_at.result c.hash_step-h.result c.whole_u32_at.ensures c.hash_step-h.ensures;
    }

pub returns : goal.returns
returns c =
    let a = c.args in
    let l = c.loop-word in
    let x = c.in-None.ensures.steps in
    the_last a.b.now a.t l.h (chunks_exact_rest l.word-iterator) l.invariant.hashing (omega (arith, x.1.0, l.invariant.fours)) _ c.u32_at.result c.hash_step.result refl c.u32_at.ensures c.hash_step.ensures
