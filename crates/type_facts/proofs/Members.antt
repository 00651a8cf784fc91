-- The last member of a struct says whether it ends in a dynamic array; where there is none, it is as if it did.
use Rattle.std.proofs.Common.{◌≡◌, Bool, true, List, [], ◌∷◌, map, Option, Some, None, refl, ap, ◌∙◌}
use Rattle.std.specs.Iterator.{YieldsFirstBy, Drains}
use Rattle.std.specs.List.{last_or}
use Rattle.definition.specs.Sheet.{TypeEntry}
use Rattle.definition.specs.Rules.{inner_at, is_dynamic, ends_dynamic}
use Rattle.members.specs.declared.Member.{Member}
use Rattle.members.specs.declared.Members.{Members}
use Rattle.members.specs.Walk.{member_of, members_left}
use Rattle.members.proofs.Laws.{drained}

module _ (ts : List TypeEntry) where
  abbrev pub last_dynamic : Option Member → Bool
  last_dynamic None = true
  last_dynamic (Some m) = is_dynamic (inner_at ts m.ty)

  behind : (x : Member) (xs : List Member) → last_dynamic (last_or (Some x) xs) ≡ ends_dynamic ts (map member_of (x ∷ xs))
  unfolding ends_dynamic
  behind x [] = refl
  behind x (y ∷ xs) = behind y xs

  all : (xs : List Member) → last_dynamic (last_or None xs) ≡ ends_dynamic ts (map member_of xs)
  unfolding ends_dynamic
  all [] = refl
  all (x ∷ xs) = behind x xs

  pub of_last : (s : Members) (r : Option Member) → ((xs : List Member) × Drains (YieldsFirstBy member_of members_left) s xs × (r ≡ last_or None xs)) → last_dynamic r ≡ ends_dynamic ts (members_left s)
  of_last s r ran = ap last_dynamic ran.2 ∙ all ran.0 ∙ ap (ends_dynamic ts) (drained s ran.0 ran.1)
