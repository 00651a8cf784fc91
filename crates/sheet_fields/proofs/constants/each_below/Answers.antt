-- `all` asks of each index what the definition asks of the number there.
use Rattle.std.proofs.Common.{◌+◌, ◌*◌, refl, ◌∙◌, rules, arith}
use Rattle.std.proofs.lemmas.Iterator.{YieldsList-from_range}
use Rattle.std.proofs.lemmas.Iterator.Search.{all_from_yields_List}
use borrow.Author.Tests.{tests}
use lib.Dec.{ltb}
use Rattle.definition.specs.Bytes.{u16_at}
use Rattle.sheet_fields.proofs.Each.{numbers}
use Rattle.sheet_fields.proofs.constants.each_below.Goals as goal

pub returns : goal.returns
returns c =
    let a = c.args in
    all_from_yields_List (λ i. ltb (u16_at a.b.now (a.first + 2 * i)) a.most) c.all.new.self _ _ c.all.ensures.ran (YieldsList-from_range 0 a.n a.n refl (omega arith)) (λ x b q k. search (rules, tests))
    ∙ numbers (λ t. ltb t a.most) a.b.now a.first a.n
