-- The parts that stand behind those in use, lent to the constructor: there are n of them.
use mathlib.Core.List.{map}
use native.Mathlib.Omega.{arith}
use Rattle.definition.specs.Instructions.{words, constant_composite}
use Rattle.spirv.specs.Ids.{low}
use Rattle.writer.proofs.Spelt.{composite_of_lem, staged_few, put_staged}
use Rattle.writer.proofs.Writer.declare_composite.Goals as goal

pub overflow_add-self : goal.overflow_add-self
overflow_add-self c =
    let a = c.args in
    let room = c.requires.2 in
    omega (arith, staged_few (constant_composite a.ty a.id) (λ xs. words (constant_composite c.low_word.result c.low_word-2.result (map low xs))) 3 a.n (λ xs few. composite_of_lem a.ty a.id xs c.low_word.ensures c.low_word-2.ensures few) a.self.now c.requires c.take-tables.ensures.value c.constant_composite-words.ensures)

pub returns : goal.returns
returns c =
    let a = c.args in
    put_staged (constant_composite a.ty a.id) (λ xs. words (constant_composite c.low_word.result c.low_word-2.result (map low xs))) 3 a.n (λ xs few. composite_of_lem a.ty a.id xs c.low_word.ensures c.low_word-2.ensures few) a.self.now c.requires c.take-tables.ensures.value c.constant_composite-words.ensures
