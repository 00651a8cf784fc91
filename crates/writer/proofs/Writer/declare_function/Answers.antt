-- The ids that stand behind those in use, lent to the constructor: there are n of them.
use mathlib.Core.List.{map}
use lib.Dec.{lit<}
use native.Mathlib.Omega.{arith}
use Rattle.definition.specs.Numbers.{OpTypeFunction}
use Rattle.definition.specs.Instructions.{words, type_function}
use Rattle.spirv.specs.Ids.{low}
use Rattle.writer.proofs.Spelt.{type_of_lem, staged_few, put_staged}
use Rattle.writer.proofs.Writer.declare_function.Goals as goal

pub overflow_add-self : goal.overflow_add-self
overflow_add-self c =
    let a = c.args in
    let room = c.requires.2 in
    omega (arith, staged_few (type_function a.id) (λ xs. words (type_function c.low_word.result (map low xs))) 2 a.n (λ xs few. type_of_lem OpTypeFunction (lit< tt) a.id xs c.low_word.ensures few) a.self.now c.requires c.take-tables.ensures.value c.type_function-words.ensures)

pub returns : goal.returns
returns c =
    let a = c.args in
    put_staged (type_function a.id) (λ xs. words (type_function c.low_word.result (map low xs))) 2 a.n (λ xs few. type_of_lem OpTypeFunction (lit< tt) a.id xs c.low_word.ensures few) a.self.now c.requires c.take-tables.ensures.value c.type_function-words.ensures
