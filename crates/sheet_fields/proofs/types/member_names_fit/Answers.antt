-- `all` asks of each member what the definition asks of each name.
use Rattle.std.proofs.Common.{◌∙◌, rules}
use Rattle.std.proofs.lemmas.Iterator.Search.{all_from_yields_List}
use borrow.Author.Tests.{tests}
use Rattle.definition.specs.Utf8.{name_fits}
use Rattle.members.specs.Walk.{members_left}
use Rattle.members.proofs.Laws.{gives, each_name}
use Rattle.sheet_fields.proofs.types.member_names_fit.Goals as goal

pub returns : goal.returns
returns c = all_from_yields_List (λ m. name_fits m.name) c.all.new.self _ _ c.all.ensures.ran (gives c.args.members) (λ x b q k. search (rules, tests)) ∙ each_name name_fits (members_left c.args.members)
