-- `any` asks of each word whether it is the number, as `among` does of the numbers that the definition reads (`listed`).
use Rattle.std.proofs.Common.{rules, ◌∙◌, ap, ◌/◌, length, ℕ}
use Rattle.std.proofs.lemmas.Iterator.{YieldsList-from_slice}
use Rattle.std.proofs.lemmas.Iterator.Search.{any_from_yields_List}
use Rattle.definition.specs.Bytes.{u32_at}
use Rattle.definition.specs.Choice.{among}
use Rattle.definition.specs.Sheet.{available_fields}
use lib.Dec.{eqb}
use Rattle.availability.proofs.Listed.{listed}
use Rattle.availability.proofs.lists_capability.Goals as goal

pub returns : goal.returns
unfolding available_fields
returns c =
    let number = c.word-number.result in
    let by_call = any_from_yields_List (λ w. eqb number (u32_at w 0)) _ _ _ c.any.ensures.ran (YieldsList-from_slice c.as_chunks.result.0.now c.iter.ensures.rest) (λ x b q k. search rules) in
    rw c.as_chunks.ensures.front at by_call ∙ listed number (length c.args.body.now / 4) c.args.body.now 0
    ∙ ap (λ (x : ℕ). among x (available_fields c.args.body.now).value) c.word-number.ensures
