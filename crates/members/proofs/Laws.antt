-- The members from a place on: the first of them, and those behind its name; and what is asked of each member's type or name.
use Rattle.std.proofs.Common.{length, ◌≡◌, ℕ, zero, suc, ◌+◌, ◌-◌, ◌<◌, List, [], ◌∷◌, map, refl, ap, sym, ◌∙◌, Bool, ◌&&◌, arith}
use Rattle.std.specs.Iterator.{YieldsFirstBy, Drains}
use Rattle.std.specs.List.{list_all}
use Rattle.std.proofs.lemmas.Iterator.{YieldsList, items_from_drains}
use Rattle.std.proofs.lemmas.Iterator.Consumers.{YieldsList-from_first}
use Rattle.definition.specs.Bytes.{u16_at, u32_at, name_at, name_end, Name}
use Rattle.definition.specs.Choice.{every}
use Rattle.definition.specs.Sheet.{Member, members_at, members_end}
use Rattle.definition.specs.Tests.{member_names, member_types}
use Rattle.members.specs.declared.Member.{Member as Given}
use Rattle.members.specs.declared.Members.{Members}
use Rattle.members.specs.Walk.{member_of, members_left}

module _ (b : List ℕ) (p k q : ℕ) (h : 0 < k) (e : q ≡ name_end b (p + 6)) where
  one_more : k ≡ suc (k - 1)
  one_more = omega arith

  pub split : members_at b p k ≡ record { type = u16_at b p; offset = u32_at b (p + 2); name = name_at b (p + 6) } ∷ members_at b q (k - 1)
  unfolding members_at
  split = ap (members_at b p) one_more ∙ ap (λ j. record { type = u16_at b p; offset = u32_at b (p + 2); name = name_at b (p + 6) } ∷ members_at b j (k - 1)) (sym e)

  pub end_split : members_end b p k ≡ members_end b q (k - 1)
  unfolding members_end
  end_split = ap (members_end b p) one_more ∙ ap (λ j. members_end b j (k - 1)) (sym e)

pub none_left : (b : List ℕ) (p k : ℕ) → k ≡ 0 → members_at b p k ≡ []
unfolding members_at
none_left b p k e = ap (members_at b p) e

pub end_stop : (b : List ℕ) (p k : ℕ) → k ≡ 0 → members_end b p k ≡ p
unfolding members_end
end_stop b p k e = ap (members_end b p) e

pub how_many : (b : List ℕ) (p k : ℕ) → length (members_at b p k) ≡ k
unfolding members_at
how_many b p zero = refl
how_many b p (suc k) = ap suc (how_many b (name_end b (p + 6)) k)

-- ---- what is asked of each

-- the iterator gives what is left, for the laws on chains
pub gives : (s : Members) → YieldsList (YieldsFirstBy member_of members_left) member_of s (members_left s)
gives s = YieldsList-from_first member_of members_left {s = s} (members_left s) refl

-- what it gave until it had none is all that was left
pub drained : (s : Members) (xs : List Given) → Drains (YieldsFirstBy member_of members_left) s xs → map member_of xs ≡ members_left s
drained s xs d = items_from_drains xs (d.1.0, d.1.1, λ _. (d.0, d.1.2)) (gives s)

pub each_type : (P : ℕ → Bool) (ms : List Member) → list_all (λ m. P m.type) ms ≡ every P (member_types ms)
unfolding member_types
each_type P [] = refl
each_type P (m ∷ ms) = ap (λ t. P m.type && t) (each_type P ms)

pub each_name : (P : Name → Bool) (ms : List Member) → list_all (λ m. P m.name) ms ≡ every P (member_names ms)
unfolding member_names
each_name P [] = refl
each_name P (m ∷ ms) = ap (λ t. P m.name && t) (each_name P ms)
