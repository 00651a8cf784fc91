-- Two passes come to the definition's one: finding an entry changes nothing, and decorations and names enter no key, so the ids
-- of the members' types are the same whenever they are asked for.
use Prim.Native.Nat.{ℕ, suc}
use mathlib.Core.Path.{◌≡◌, refl, ap, ◌∙◌}
use mathlib.Core.Bool.{Bool, true, false}
use mathlib.Core.List.{List, [], ◌∷◌, map}
use native.Mathlib.Omega.{arith}
use Rattle.std.specs.Prelude.{Option, Some, None}
use Rattle.definition.specs.Bytes.{Name}
use Rattle.definition.specs.Choice.{or_else}
use Rattle.definition.specs.Instructions.{Instruction}
use Rattle.definition.specs.Sheet.{Member, TypeEntry}
use Rattle.definition.specs.Shapes.{Key, same_key, entry}
use Rattle.definition.specs.State.{State, lookup}
use Rattle.definition.specs.Rules.{declare_members, decorate_member, stride_member, label_if, annotate_if, block}
use Rattle.finding.proofs.Entries.{entry_found}
use Rattle.writer_types.specs.Members.{decorated, ids_in}

-- ids hang on the table of types alone
ids_alike : (ms : List Member) (s t : State) → s.types ≡ t.types → ids_in s ms ≡ ids_in t ms
ids_alike ms s t e = ap (λ (l : List (Key × ℕ)). map (λ (m : Member). or_else 0 (lookup same_key (entry m.type) l)) ms) e

-- ---- what enters no key

stride_types : (o : Option ℕ) (id i : ℕ) (s : State) → (stride_member o id i s).types ≡ s.types
stride_types None id i s = refl
stride_types (Some n) id i s = refl

label_types : (d : Bool) (write : List ℕ → Instruction) (nm : Name) (s : State) → (label_if d write nm s).types ≡ s.types
label_types false write nm s = refl
label_types true write None s = refl
label_types true write (Some bs) s = refl

annotate_types : (d : Bool) (i : Instruction) (s : State) → (annotate_if d i s).types ≡ s.types
annotate_types false i s = refl
annotate_types true i s = refl

-- ---- the passes

module _ (debug : Bool) (ts : List TypeEntry) (id : ℕ) where
  member_types_lem : (i : ℕ) (m : Member) (s : State) → (decorate_member debug ts id i m s).types ≡ s.types
  member_types_lem i m s = grind (arith, stride_types, label_types)

  decorated_types : (i : ℕ) (ms : List Member) (s : State) → (decorated debug ts id i ms s).types ≡ s.types
  unfolding decorated
  decorated_types i [] s = refl
  decorated_types i (m ∷ ms) s = decorated_types (suc i) ms (decorate_member debug ts id i m s) ∙ member_types_lem i m s

  pub two_passes : (i : ℕ) (ms : List Member) (s : State) → declare_members debug ts id i ms s ≡ record { ids = ids_in s ms; state = decorated debug ts id i ms s }
  unfolding declare_members decorated
  two_passes i [] s = refl
  two_passes i (m ∷ ms) s =
      let t = decorate_member debug ts id i m s in
      let q = ids_alike (m ∷ ms) t s (member_types_lem i m s) in
      rw (entry_found m.type t, two_passes (suc i) ms t, q) refl

  -- the types are what they were before Block and the decorations
  pub ids_after : (d : Bool) (ms : List Member) (s : State) → ids_in (annotate_if d (block id) (decorated debug ts id 0 ms s)) ms ≡ ids_in s ms
  ids_after d ms s = let t = decorated debug ts id 0 ms s in ids_alike ms (annotate_if d (block id) t) s (annotate_types d (block id) t ∙ decorated_types 0 ms s)
