-- `any` asks of each member what the definition asks.
use Rattle.std.proofs.Common.{◌∙◌, rules}
use Rattle.std.proofs.lemmas.Iterator.Search.{any_from_yields_List}
use borrow.Author.Tests.{tests}
use Rattle.definition.specs.Rules.{inner_at, is_dynamic}
use Rattle.members.specs.Walk.{members_left}
use Rattle.members.proofs.Laws.{gives}
use Rattle.records.specs.Places.{types_in}
use Rattle.writer_types.proofs.Decorating.{any_dynamic_lem}
use Rattle.writer_types.proofs.structs.has_runtime_array.Goals as goal

pub returns : goal.returns
returns c =
    let a = c.args in
    let ts = types_in a.types in
    any_from_yields_List (λ m. is_dynamic (inner_at ts m.type)) c.any.new.self _ _ c.any.ensures.ran (gives a.members) (λ x b q k. search (rules, tests)) ∙ any_dynamic_lem ts (members_left a.members)
