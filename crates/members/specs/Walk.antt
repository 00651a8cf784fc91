-- What an iterator over a struct's members stands for: the definition's members that it has not given yet.
use Rattle.std.specs.Prelude.{ℕ, List}
use Rattle.definition.specs.Bytes.{name_at}
use Rattle.definition.specs.Sheet.{members_at, members_end}
use Rattle.definition.specs.Sheet as sheet
use Rattle.members.specs.declared.Member.{Member}
use Rattle.members.specs.declared.Members.{Members}

-- the definition's member, with the name that stands where the item says
abbrev pub member_of : Member → sheet.Member
member_of m = record { type = m.ty; offset = m.offset; name = name_at m.body.now m.name }

-- the members that are left
abbrev pub members_left : Members → List sheet.Member
members_left s = members_at s.body.now s.at s.left

-- where the last of them ends
abbrev pub end_left : Members → ℕ
end_left s = members_end s.body.now s.at s.left
