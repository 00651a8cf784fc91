-- `all` asks of each member what the definition asks of each type.
use Rattle.std.proofs.Common.{◌∙◌, rules}
use Rattle.std.proofs.lemmas.Iterator.Search.{all_from_yields_List}
use borrow.Author.Tests.{tests}
use lib.Dec.{ltb}
use Rattle.members.specs.Walk.{members_left}
use Rattle.members.proofs.Laws.{gives, each_type}
use Rattle.sheet_fields.proofs.types.members_read_already.Goals as goal

pub returns : goal.returns
returns c = all_from_yields_List (λ m. ltb m.type c.args.types) c.all.new.self _ _ c.all.ensures.ran (gives c.args.members) (λ x b q k. search (rules, tests)) ∙ each_type (λ t. ltb t c.args.types) (members_left c.args.members)
