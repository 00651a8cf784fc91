-- The loop over a struct's members that puts the ids of their types: the words that wait, with those of the members that are
-- left behind them, are the instruction's. They wait behind the declarations in use, so what is held stays held.
use Prim.Native.Nat.{ℕ, suc, ◌+◌, ◌*◌, ◌<◌}
use mathlib.Core.Path.{◌≡◌, sym, ap, ◌∙◌}
use mathlib.Core.List.{List, [], ◌∷◌, ◌++◌, map, append-nil}
use native.Mathlib.Omega.{arith}
use lib.ListN.{length, get_or, length-map}
use lib.Seq.{append_snoc}
use Rattle.definition.specs.Choice.{or_else}
use Rattle.definition.specs.Instructions.{words, type_struct}
use Rattle.definition.specs.Sheet.{Member}
use Rattle.definition.specs.Shapes.{entry}
use Rattle.definition.specs.State.{State, id_of}
use Rattle.writer.specs.declared.Writer.{Writer}
use Rattle.spirv.specs.Heads.{struct_head}
use Rattle.spirv.specs.Ids.{low}
use Rattle.writer.specs.Rows.{part}
use Rattle.writer.specs.Regions.{section_at, declarations}
use Rattle.writer.specs.Cost.{no_cost}
use Rattle.writer.specs.Held.{Held, HeldByTables}
use Rattle.writer.specs.Steps.{Kept, Pending, Committed}
use Rattle.writer.proofs.Turns.{tail_then, tail_within, in_turn}
use Rattle.writer_types.specs.Members.{ids_in, StructPut}

-- the first j words of an instruction that is not whole yet
abbrev waiting : Writer → ℕ → List ℕ
waiting w j = part w.sections.now (section_at declarations w.used + w.used.declarations) j

-- words that are no instruction yet change nothing
pending_kept : {k : ℕ} {xs : List ℕ} {w v : Writer} → Pending k xs w v → Kept no_cost (λ s. s) w v
pending_kept p = record { grown = grind arith; tail = record { parts = grind arith; ids = λ j l. ap (λ (T : List ℕ). get_or T j 0) p.tables; tables = λ z. p.tables }; held = p.still }

-- of all the members, the types of ms are left to be put, the first of them as word i + 2
pub record Putting (id : ℕ) (all : List Member) (w v : Writer) (ms : List Member) (i : ℕ) : Type 0 where
  pub count : i + length ms ≡ length all
  pub kept : Kept no_cost (λ s. s) w v
  pub put : (s : State) → Held w s → waiting v (i + 2) ++ map low (ids_in s ms) ≡ map low (words (type_struct id (ids_in s all)))

module _ {id : ℕ} {all : List Member} {w : Writer} where
  -- the head stands before the loop
  pub headed : {v : Writer} → length all < 256 → Pending 0 (struct_head (low id) (length all)) w v → Putting id all w v all 0
  unfolding words
  headed few p = record {
    count = omega arith;
    kept = pending_kept p;
    put = λ s h.
        let ids = ids_in s all in
        let c : length ids ≡ length all = length-map all (λ (m : Member). or_else 0 (id_of s (entry m.type))) in
        let a : 65536 * (length all + 2) + 30 ≡ low (65536 * suc (suc (length ids)) + 30) = omega arith in
        ap (λ (l : List ℕ). l ++ map low ids) p.more ∙ (λ j. a j ∷ low id ∷ map low ids);
  }

  module _ {v : Writer} {i : ℕ} {left : List Member} (h : Putting id all w v left i) where
    pub next : {m : Member} {ms : List Member} → left ≡ m ∷ ms → {x y j k : ℕ} → ((s : State) → HeldByTables v s → x ≡ or_else 0 (id_of s (entry m.type)))
        → y ≡ low x → j ≡ i → k ≡ i + 1 → {u : Writer} → Pending (j + 2) (y ∷ []) v u → Putting id all w u ms k
    next {m = m} {ms = ms} e {x = x} {y = y} {j = j} {k = k} ex ey ej ek {u = u} d =
        let g : Putting id all w v (m ∷ ms) i = rw e at h in
        record {
          count = omega (arith, g.count);
          kept = in_turn g.kept (pending_kept d);
          put = λ s h.
              let rest = map low (ids_in s ms) in
              let n : y ≡ low (or_else 0 (id_of s (entry m.type))) = ey ∙ ap low (ex s (v.sections.now, g.kept.held s h)) in
              let e : k + 2 ≡ j + 2 + 1 = omega arith in
              ap (λ (z : ℕ). waiting u z ++ rest) e
              ∙ ap (λ (z : List ℕ). z ++ rest) d.more
              ∙ append_snoc (waiting v (j + 2)) y rest
              ∙ ap (λ (z : ℕ). waiting v (j + 2) ++ z ∷ rest) n
              ∙ ap (λ (z : ℕ). waiting v (z + 2) ++ map low (ids_in s (m ∷ ms))) ej
              ∙ g.put s h;
        }

    pub ended : left ≡ [] → {n : ℕ} → n ≡ length all → {u : Writer} → Committed (n + 2) v u → StructPut id all w u
    ended e {n = n} en {u = u} c =
        let g : Putting id all w v [] i = rw e at h in
        record {
          grown = omega (arith, g.kept.grown, c.grown);
          tail = tail_within (omega (arith, en)) (tail_then g.kept.grown g.kept.tail c.tail);
          held = λ s h.
              let k = type_struct id (ids_in s all) in
              let j : n + 2 ≡ i + 2 = omega (arith, g.count) in
              let e : waiting v (n + 2) ≡ map low (words k) = ap (waiting v) j ∙ sym (append-nil (waiting v (i + 2))) ∙ g.put s h in
              c.held s k (sym e) (g.kept.held s h);
        }
