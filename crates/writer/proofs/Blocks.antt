-- Block on an id: its words behind the annotations and its id behind those that carry Block, in one step, since neither alone is
-- held. The search for an id there is the definition's.
use Prim.Native.Nat.{ℕ, ◌+◌, ◌≤◌}
use mathlib.Core.Path.{◌≡◌, refl, ap, ◌∙◌}
use mathlib.Core.Bool.{Bool, true}
use mathlib.Core.List.{List, [], ◌∷◌, ◌++◌}
use native.Mathlib.Omega.{arith}
use lib.Dec.{eqb, lit<, lit≤}
use lib.ListN.{length}
use Rattle.definition.specs.Choice.{pick, among}
use Rattle.definition.specs.Instructions.{words, decorate}
use Rattle.definition.specs.Numbers.{DecorationBlock}
use Rattle.definition.specs.State.{annotate}
use Rattle.definition.specs.Rules.{block, blocked}
use Rattle.spirv.specs.Put.{Put}
use Rattle.spirv.specs.Ids.{low}
use Rattle.spirv.specs.Sections.{splice}
use Rattle.spirv.proofs.Splices.{splice-length}
use Rattle.spirv.proofs.Puts as Puts
use Rattle.writer.specs.declared.Used.{Used}
use Rattle.writer.specs.declared.Writer.{Writer}
use Rattle.writer.specs.Rows.{pair, triple, part, is_listed}
use Rattle.writer.specs.Regions.{literals_at, nulls_at, values_at, composites_at, blocked_at, parts_at, section_at, annotations, more}
use Rattle.writer.specs.Cost.{annotating, a_block}
use Rattle.writer.specs.Held.{Tables, tables_of, tables_in, WordsFit, Room}
use Rattle.writer.specs.Steps.{Kept, FindsBlock}
use Rattle.writer.proofs.Regions.{behind, part_right, part_more}
use Rattle.writer.proofs.Tables.{before}
use Rattle.writer.proofs.Words.{append, append_in, blocked_snoc, put_appended, adds_count, put_long}
use Rattle.writer.specs.Steps.{Spells}
use Rattle.writer.proofs.Spelt.{decorates}

-- ---- the search

pub listed_among : (c : ℕ) (xs : List ℕ) → is_listed c xs ≡ among c xs
unfolding is_listed
listed_among c [] = refl
listed_among c (x ∷ xs) = ap (pick (eqb c x) true) (listed_among c xs)

pub finds_block : (id : ℕ) (w : Writer) (r : Bool) → r ≡ is_listed id (part w.tables.now (blocked_at w.used) w.used.blocked) → FindsBlock id w r
finds_block id w r e s h = e ∙ ap (λ (t : Tables). is_listed id t.blocked) h.1.tables ∙ listed_among id (blocked s.annotations)

-- ---- the step

abbrev pub more_blocked : Used → Used
more_blocked u = record u { blocked = u.blocked + 1 }

module _ (id : ℕ) (w : Writer) (room : Room a_block w) where
  abbrev u : Used
  u = w.used

  abbrev T : List ℕ
  T = w.tables.now

  abbrev S : List ℕ
  S = w.sections.now

  abbrev from : ℕ
  from = section_at annotations u + u.annotations

  abbrev at : ℕ
  at = blocked_at u + u.blocked

  -- the tables: one id more, whatever is put into the sections
  blocked_row : (m : ℕ) → tables_of (more_blocked (more annotations u m)) (splice T at (id ∷ [])) ≡ record (tables_of u T) { blocked = (tables_of u T).blocked ++ id ∷ [] }
  blocked_row m =
      let ws = id ∷ [] in
      let inside : at + 1 ≤ length T = omega arith in
      λ i. record {
        types = before pair T at ws 0 u.types inside (omega arith) i;
        literals = before triple T at ws (literals_at u) u.literals inside (omega arith) i;
        nulls = before pair T at ws (nulls_at u) u.nulls inside (omega arith) i;
        values = before triple T at ws (values_at u) u.values inside (omega arith) i;
        composites = before triple T at ws (composites_at u) u.composites inside (omega arith) i;
        blocked = part_more T (blocked_at u) u.blocked at ws refl inside i;
        parts = part_right T at ws inside (parts_at u) u.parts (omega arith) i;
      }

  -- what a writer put into the part that it was lent
  module _ (t : ℕ) (e : t ≡ low id) (z : List ℕ) (m : ℕ) (put : Put (words (decorate t DecorationBlock [])) (Puts.part S from) z m) where
    fits : WordsFit (annotating 3) u S
    fits = omega (arith, room.words)

    spells : Spells 3 (block id) (words (decorate t DecorationBlock []))
    spells = decorates id DecorationBlock [] e (lit< tt) (lit≤ tt) (λ i. lit< tt)

    pub few : m ≤ 3
    few = omega (arith, spells.few, adds_count u S (words (decorate t DecorationBlock [])) 3 spells.few annotations z m fits put)

    pub put_block : (T' : List ℕ) → T' ≡ splice T at (id ∷ [])
        → Kept a_block (annotate (block id)) w (record w { tables = record w.tables { now = T' }; sections = record w.sections { now = Puts.back S from z }; used = more_blocked (more annotations u m) })
    put_block T' q =
        let ws = words (decorate t DecorationBlock []) in
        rw q (record {
          grown = omega (arith, few, splice-length T at (id ∷ []) (omega arith), put_long u S ws 3 spells.few annotations z m fits put);
          tail = record { parts = refl; ids = λ j l. behind T at (id ∷ []) (omega arith) j (omega arith); tables = λ z. absurd (omega (arith, z)) };
          held = λ s h. record {
            last = h.last;
            tables = blocked_row m
                ∙ ap (λ (t : Tables). record t { blocked = t.blocked ++ id ∷ [] }) h.tables
                ∙ (λ i. record (tables_in s) { blocked = blocked_snoc s.annotations (block id) i });
            small = h.small;
            sections = put_appended u S ws 3 spells.few annotations z m fits put ∙ ap (append annotations ws) h.sections ∙ append_in annotations (block id) ws spells.spelt s;
          };
        })
