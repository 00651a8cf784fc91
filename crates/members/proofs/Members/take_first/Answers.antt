-- The fields that were read are the first member's; the others stand behind its name.
use Rattle.members.proofs.Laws.{split, end_split}
use Rattle.members.proofs.Members.take_first.Goals as goal

pub returns-clause-taken : goal.returns-clause-taken
returns-clause-taken c =
    let s = c.args.self.now in
    rw (c.u16_at.ensures, c.u32_at.ensures) (split s.body.now s.at s.left c.name_end.result c.requires c.name_end.ensures.value)

pub returns-clause-end : goal.returns-clause-end
returns-clause-end c = let s = c.args.self.now in end_split s.body.now s.at s.left c.name_end.result c.requires c.name_end.ensures.value
