-- What `last` gave is the last of all the members.
use Rattle.std.proofs.Common.{◌≡◌, ◌+◌, sym, ap, ◌∙◌}
use Rattle.definition.specs.Bytes.{u8_at, name_end}
use Rattle.definition.specs.Rules.{ends_dynamic}
use Rattle.definition.specs.Sheet.{members_at}
use Rattle.records.specs.Places.{types_in}
use Rattle.type_facts.proofs.Members.{last_dynamic, of_last}
use Rattle.type_facts.proofs.ends_dynamic.Goals as goal
use Rattle.type_facts.proofs.ends_dynamic.Goals.{After-last}

last_said : (c : After-last) → last_dynamic (types_in c.args.types) c.last.result ≡ ends_dynamic (types_in c.args.types) (members_at c.args.b.now (name_end c.args.b.now 0 + 5) (u8_at c.args.b.now (name_end c.args.b.now 0 + 4)))
last_said c =
    let a = c.args in
    let ts = types_in a.types in
    of_last ts c.behind.result c.last.result c.last.ensures.ran ∙ ap (ends_dynamic ts) c.behind.ensures.value
    ∙ ap (λ n. ends_dynamic ts (members_at a.b.now (n + 5) (u8_at a.b.now (n + 4)))) c.name_end.ensures.value

pub returns-in-None : goal.returns-in-None
returns-in-None c =
    ap (last_dynamic (types_in c.args.types)) (sym c.in-None.is) ∙ last_said (goal.at.returns-in-None c).After-last

pub returns-in-Some : goal.returns-in-Some
returns-in-Some c =
    c.is_dynamic.ensures ∙ ap (last_dynamic (types_in c.args.types)) (sym c.in-Some.is) ∙ last_said (goal.at.returns-in-Some c).After-last
