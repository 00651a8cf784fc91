-- What calls leave, one after the other: growth, what waits behind the parts in use, changes of the
-- state, and ids that are found. A call may be told under another name, where it costs no less and does the same.
use Prim.Native.Nat.{ℕ, suc, ◌≤◌}
use mathlib.Core.Path.{◌≡◌, refl, sym, ap, ◌∙◌, subst}
use mathlib.Core.List.{List}
use native.Mathlib.Omega.{arith}
use Rattle.definition.specs.State.{State, Got, got}
use Rattle.writer.specs.declared.Used.{Used}
use Rattle.writer.specs.declared.Writer.{Writer}
use Rattle.writer.specs.Cost.{Cost, ◌⊕◌, listing_cost}
use Rattle.writer.specs.Held.{HeldIn, Held, RoomFor, Room, Grown}
use Rattle.writer.specs.Steps.{Tail, Kept, Added, Gives, GotBy, FoundBy, Took, Listed, listing}

-- no part of a cost is more than the other's
pub record AtMost (c d : Cost) : Type 0 where
  pub types : c.types ≤ d.types
  pub literals : c.literals ≤ d.literals
  pub nulls : c.nulls ≤ d.nulls
  pub values : c.values ≤ d.values
  pub composites : c.composites ≤ d.composites
  pub blocked : c.blocked ≤ d.blocked
  pub parts : c.parts ≤ d.parts
  pub capabilities : c.capabilities ≤ d.capabilities
  pub names : c.names ≤ d.names
  pub annotations : c.annotations ≤ d.annotations
  pub declarations : c.declarations ≤ d.declarations
  pub ids : c.ids ≤ d.ids

-- ---- growth, and room

infixl 6 ◌▹◌
pub ◌▹◌ : {c d : Cost} {w v u : Writer} → Grown c w v → Grown d v u → Grown (c ⊕ d) w u
p ▹ q = omega (arith, p, q)

pub grown_within : {c d : Cost} {w v : Writer} → AtMost c d → Grown c w v → Grown d w v
grown_within m p = omega (arith, m, p)

pub room_within : {c d : Cost} {w : Writer} → AtMost c d → Room d w → Room c w
room_within m r = record { rows = omega (arith, m, r.rows); words = omega (arith, m, r.words) }

-- ---- what stands behind the parts in use

pub tail_then : {c d : Cost} {w v u : Writer} → Grown c w v → Tail c w v → Tail d v u → Tail (c ⊕ d) w u
tail_then p k l = record { parts = l.parts ∙ k.parts; ids = λ j h. l.ids j (omega (arith, p, h)) ∙ k.ids j h; tables = λ z. l.tables (omega (arith, z)) ∙ k.tables (omega (arith, z)) }

pub tail_within : {c d : Cost} {w v : Writer} → AtMost c d → Tail c w v → Tail d w v
tail_within m k = record { parts = k.parts; ids = k.ids; tables = λ z. k.tables (omega (arith, m, z)) }

-- ---- changes of the state

pub still : (c : Cost) {f : State → State} (w : Writer) → ((s : State) → f s ≡ s) → Kept c f w w
still c w e = record { grown = omega arith; tail = record { parts = refl; ids = λ j l. refl; tables = λ z. refl }; held = λ s h. subst (Held w) (sym (e s)) h }

pub in_turn : {c d : Cost} {f g : State → State} {w v u : Writer} → Kept c f w v → Kept d g v u → Kept (c ⊕ d) (λ s. g (f s)) w u
in_turn {f = f} p q = record { grown = p.grown ▹ q.grown; tail = tail_then p.grown p.tail q.tail; held = λ s h. q.held (f s) (p.held s h) }

pub kept_as : {c d : Cost} {f g : State → State} {w v : Writer} → Kept c f w v → AtMost c d → ((s : State) → Held w s → f s ≡ g s) → Kept d g w v
kept_as {v = v} p m e = record { grown = grown_within m p.grown; tail = tail_within m p.tail; held = λ s h. subst (Held v) (e s h) (p.held s h) }

-- .. of the sections alone
pub added_still : (c : Cost) (w : Writer) → Added c (λ s. s) w w
added_still c w = record { kept = still c w (λ s. refl); apart = λ T s h. h }

pub added_then : {c d : Cost} {f g : State → State} {w v u : Writer} → Added c f w v → Added d g v u → Added (c ⊕ d) (λ s. g (f s)) w u
added_then {f = f} p q = record { kept = in_turn p.kept q.kept; apart = λ T s h. q.apart T (f s) (p.apart T s h) }

pub added_as : {c d : Cost} {f g : State → State} {w v : Writer} → Added c f w v → AtMost c d → ((s : State) → f s ≡ g s) → Added d g w v
added_as {v = v} p m e = record { kept = kept_as p.kept m (λ s h. e s); apart = λ T s h. subst (HeldIn v.used T v.sections.now) (e s) (p.apart T s h) }

pub added_within : {c d : Cost} {f : State → State} {w v : Writer} → Added c f w v → AtMost c d → Added d f w v
added_within p m = added_as p m (λ s. refl)

-- a capability that is listed, where there is room for it
pub listed_added : {cs : List ℕ} {w v : Writer} → Listed cs w v → RoomFor (listing_cost 1) w → Added (listing_cost 1) (listing cs) w v
listed_added {cs = cs} {w = w} {v = v} l room = record {
  kept = l.kept room;
  apart = λ T s h. subst (λ (u : Used). HeldIn u T v.sections.now (listing cs s)) (sym l.used) (l.apart w.used refl room T s h);
}

-- ---- ids

-- an id that was taken is the one behind the state's last
pub named_next : {w : Writer} {id : ℕ} {v : Writer} → Took w id v → (s : State) → Held w s → id ≡ suc s.last
named_next p s h = p.named ∙ ap suc h.last

pub got_as : {c d : Cost} {f g : State → Got} {w : Writer} {id : ℕ} {v : Writer} → GotBy c f w id v → AtMost c d → ((s : State) → Held w s → f s ≡ g s) → GotBy d g w id v
got_as {id = id} {v = v} p m e = record { grown = grown_within m p.grown; tail = tail_within m p.tail; gives = λ s h. subst (λ (g : Got). Gives g id v) (e s h) (p.gives s h) }

pub under_id : (id : ℕ) {c : Cost} {f : State → State} {w v : Writer} → Kept c f w v → GotBy c (λ s. got id (f s)) w id v
under_id id p = record { grown = p.grown; tail = p.tail; gives = λ s h. record { named = refl; held = p.held s h } }

-- what finding an id leaves, whatever the id
pub state_got : {c : Cost} {f : State → Got} {w : Writer} {id : ℕ} {v : Writer} → GotBy c f w id v → Kept c (λ s. (f s).state) w v
state_got p = record { grown = p.grown; tail = p.tail; held = λ s h. (p.gives s h).held }

-- .. and what is done with the id
pub got_then : {c d : Cost} {f : State → Got} (g : ℕ → State → State) {w : Writer} {id : ℕ} {v u : Writer} → GotBy c f w id v → Kept d (g id) v u → Kept (c ⊕ d) (λ s. g (f s).id (f s).state) w u
got_then {f = f} g p q = kept_as (in_turn (state_got p) q) (omega arith) (λ s h. ap (λ (i : ℕ). g i (f s).state) (p.gives s h).named)

-- what is there already
pub got_old : (c : Cost) (f : State → Got) (w : Writer) (id : ℕ) → ((s : State) → Held w s → f s ≡ got id s) → GotBy c f w id w
got_old c f w id e = got_as (under_id id (still c w (λ s. refl))) (omega arith) (λ s h. sym (e s h))

pub found_old : (c : Cost) (f : State → Got) (w : Writer) (id : ℕ) → ((s : State) → Held w s → f s ≡ got id s) → FoundBy c f w id w
found_old c f w id e = let g = got_old c f w id e in record { grown = g.grown; gives = g.gives }
