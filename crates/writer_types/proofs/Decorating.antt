-- The loop over a struct's members that decorates them: whatever does what is left does the whole, and there is room for it, by
-- the bytes of the members that are left. And the search for a dynamic array among them.
use Prim.Native.Nat.{ℕ, ◌+◌, ◌<◌}
use mathlib.Core.Path.{◌≡◌, refl, ap}
use mathlib.Core.Bool.{Bool, ◌||◌}
use mathlib.Core.List.{List, [], ◌∷◌}
use Rattle.std.specs.List.{list_any}
use native.Mathlib.Omega.{arith}
use native.Mathlib.Numerals.{add-one}
use lib.ListN.{length}
use Rattle.definition.specs.Sheet.{Member, TypeEntry}
use Rattle.definition.specs.Rules.{decorate_member, inner_at, is_dynamic, any_dynamic}
use Rattle.writer.specs.declared.Writer.{Writer}
use Rattle.writer.specs.Held.{RoomFor}
use Rattle.writer.specs.Steps.{Added}
use Rattle.writer.proofs.Turns.{added_still, added_then, added_within}
use Rattle.writer_types.specs.Members.{decorated}
use Rattle.writer_types.specs.Costs.{weight, named_member_cost, members_cost}

-- of all the members, ms are left, the first of them member i
pub record Going (debug : Bool) (ts : List TypeEntry) (id : ℕ) (all : List Member) (w v : Writer) (ms : List Member) (i : ℕ) : Type 0 where
  pub few : i + length ms < 256
  pub room : RoomFor (members_cost ms) v
  pub rest : (u : Writer) → Added (members_cost ms) (decorated debug ts id i ms) v u → Added (members_cost all) (decorated debug ts id 0 all) w u

module _ {debug : Bool} {ts : List TypeEntry} {id i : ℕ} {all left : List Member} {w v : Writer} where
  module _ {m : Member} {ms : List Member} (e : left ≡ m ∷ ms) (h : Going debug ts id all w v left i) where
    here : Going debug ts id all w v (m ∷ ms) i
    here = rw e at h

    -- there is room for one more
    pub room_left : RoomFor (named_member_cost m.name) v
    unfolding weight
    room_left = omega (arith, here.room)

    pub on : {j k : ℕ} → j ≡ i → k ≡ i + 1 → {u : Writer} → Added (named_member_cost m.name) (decorate_member debug ts id j m) v u → Going debug ts id all w u ms k
    unfolding decorated weight
    on ej ek d = record {
      few = omega (arith, here.few);
      room = omega (arith, here.room, d.kept.grown);
      rest = λ x y. here.rest x (added_within (added_then (rw ej at d) (rw (ek, add-one) at y)) (omega arith));
    }

  pub done : left ≡ [] → Going debug ts id all w v left i → Added (members_cost all) (decorated debug ts id 0 all) w v
  unfolding decorated weight
  done e h = (rw e at h).rest v (added_still (members_cost []) v)

-- a dynamic array among them
pub any_dynamic_lem : (ts : List TypeEntry) (ms : List Member) → list_any (λ m. is_dynamic (inner_at ts m.type)) ms ≡ any_dynamic ts ms
unfolding any_dynamic
any_dynamic_lem ts [] = refl
any_dynamic_lem ts (m ∷ ms) = ap (λ (x : Bool). is_dynamic (inner_at ts m.type) || x) (any_dynamic_lem ts ms)
