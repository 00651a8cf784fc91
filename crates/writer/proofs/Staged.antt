-- Parts put behind those in use, one by one: what is put there leaves all that is in use alone and stands behind what was put before
-- it, and there it stays.
use Prim.Native.Nat.{ℕ, ◌+◌, ◌*◌, ◌≤◌}
use mathlib.Core.Path.{◌≡◌, refl, sym, ap, ◌∙◌, subst}
use mathlib.Core.List.{List, [], ◌∷◌, ◌++◌}
use native.Mathlib.Omega.{arith}
use lib.ListN.{length}
use Rattle.definition.specs.State.{State}
use Rattle.spirv.specs.Sections.{splice}
use Rattle.spirv.proofs.Splices.{splice-length}
use Rattle.writer.specs.declared.Used.{Used}
use Rattle.writer.specs.declared.Writer.{Writer}
use Rattle.writer.specs.Rows.{pair, triple, part}
use Rattle.writer.specs.Regions.{literals_at, nulls_at, values_at, composites_at, blocked_at, parts_at}
use Rattle.writer.specs.Cost.{Cost, no_cost, staging}
use Rattle.writer.specs.Held.{tables_of, HeldIn, HeldByTables, RowsFit, RoomIn, Grown}
use Rattle.writer.specs.Staged.{Staged}
use Rattle.writer.specs.Steps.{Kept, staged, with_part}
use Rattle.writer.proofs.Regions.{left, rows_agree, part_agree, part_left, part_more}

-- where the parts wait
abbrev pub waiting : Writer → ℕ
waiting w = parts_at w.used + w.used.parts

-- what is put there, or further behind, changes nothing that is in use
module _ (u : Used) (T ws : List ℕ) (p : ℕ) (late : parts_at u + u.parts ≤ p) (inside : p + length ws ≤ length T) (room : RowsFit no_cost u T) where
  tables_kept : tables_of u (splice T p ws) ≡ tables_of u T
  tables_kept = λ i. record {
    types = rows_agree pair T (splice T p ws) 0 u.types (left T p ws inside 0 (2 * u.types) (omega arith)) i;
    literals = rows_agree triple T (splice T p ws) (literals_at u) u.literals (left T p ws inside (literals_at u) (3 * u.literals) (omega arith)) i;
    nulls = rows_agree pair T (splice T p ws) (nulls_at u) u.nulls (left T p ws inside (nulls_at u) (2 * u.nulls) (omega arith)) i;
    values = rows_agree triple T (splice T p ws) (values_at u) u.values (left T p ws inside (values_at u) (3 * u.values) (omega arith)) i;
    composites = rows_agree triple T (splice T p ws) (composites_at u) u.composites (left T p ws inside (composites_at u) (3 * u.composites) (omega arith)) i;
    blocked = part_left T p ws inside (blocked_at u) u.blocked (omega arith) i;
    parts = part_left T p ws inside (parts_at u) u.parts (omega arith) i;
  }

held_behind : (w : Writer) (ws : List ℕ) (p : ℕ) → waiting w ≤ p → p + length ws ≤ length w.tables.now → RoomIn no_cost w
    → {S : List ℕ} (s : State) → HeldIn w.used w.tables.now S s → HeldIn w.used (splice w.tables.now p ws) S s
held_behind w ws p late inside room s h = record { last = h.last; tables = tables_kept w.used w.tables.now ws p late inside room ∙ h.tables; small = h.small; sections = h.sections }

-- what is staged is not in use
pub staged_grown : {n : ℕ} {ps : State → List ℕ} {w v : Writer} → Staged n ps w v → Grown no_cost w v
staged_grown {w = w} {v = v} q = subst (λ (u : Used). Grown no_cost w (record v { used = u })) (sym q.used) (omega (arith, q.lent))

pub staged_none : (w : Writer) → Staged 0 (λ s. []) w w
staged_none w = record { lent = record { tables = refl; sections = refl; tables_long = refl; sections_long = refl }; used = refl; sections = refl; held = λ s h. h; apart = λ S s h. h; parts = λ s h. refl }

-- one part more
pub staged_more : {n : ℕ} {ps : State → List ℕ} {w v : Writer} → Staged n ps w v → RoomIn (staging (n + 1)) w → (x : ℕ) (f : State → ℕ) → ((s : State) → HeldByTables v s → x ≡ f s)
    → Staged (n + 1) (λ s. ps s ++ f s ∷ []) w (with_part n x v)
staged_more {n = n} {w = w} {v = v} q room x f e =
    let fits : RowsFit (staging (n + 1)) v.used v.tables.now = rw q.used (omega (arith, room, q.lent)) in
    record {
      lent = record { tables = q.lent.tables; sections = q.lent.sections; tables_long = splice-length v.tables.now (waiting v + n) (x ∷ []) (omega (arith, fits)) ∙ q.lent.tables_long; sections_long = q.lent.sections_long };
      used = q.used;
      sections = q.sections;
      held = λ s h. held_behind v (x ∷ []) (waiting v + n) (omega arith) (omega (arith, fits)) (omega (arith, fits)) s (q.held s h);
      apart = λ S s h. held_behind v (x ∷ []) (waiting v + n) (omega arith) (omega (arith, fits)) (omega (arith, fits)) s (q.apart S s h);
      parts = λ s h. part_more v.tables.now (waiting v) n (waiting v + n) (x ∷ []) refl (omega (arith, fits)) ∙ (λ j. q.parts s h j ++ e s (h.0, q.apart h.0 s h.1) j ∷ []);
    }

-- what waits behind the parts in use still does
pub staged_still : (n : ℕ) {c : Cost} {f : State → State} {w v : Writer} → Kept c f w v → staged n v ≡ staged n w
staged_still n {w = w} {v = v} k =
    let e : waiting v ≡ waiting w = omega (arith, k.grown, k.tail) in
    ap (λ (j : ℕ). part v.tables.now j n) e ∙ part_agree w.tables.now v.tables.now (waiting w) n k.grown.lent.tables_long (λ j l h. k.tail.ids j (omega arith))
