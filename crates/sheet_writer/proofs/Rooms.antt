-- Room for the next record: what is in use is bounded by the bytes passed and by the records counted, of which each took three
-- bytes at least, and what the caller lends is enough for the sheet's bytes and for as many records as a sheet can have.
use Prim.Native.Nat.{ℕ, ◌+◌, ◌*◌, ◌≤◌, ◌<◌}
use mathlib.Core.Path.{◌≡◌, refl}
use mathlib.Core.Bool.{true}
use mathlib.Core.Logic.{◌⊎◌, inl, inr, ⊎_elim}
use mathlib.Core.List.{List}
use native.Mathlib.Omega.{arith}
use borrow.Author.Tests.{ltb-true}
use lib.ListN.{length}
use Rattle.definition.specs.Tests.{Seen, room}
use Rattle.records.specs.declared.Counts.{Counts}
use Rattle.records.specs.Counted.{Counted}
use Rattle.records.specs.Places.{WithinLimits}
use Rattle.sheet.specs.Holding.{add_counts}
use Rattle.sheet.proofs.Adding.{by_rank}
use Rattle.writer.specs.declared.Writer.{Writer}
use Rattle.writer.specs.Cost.{no_cost, record_cost}
use Rattle.writer.specs.Held.{SameLent, Room, Grown}
use Rattle.sheet_writer.specs.Turning.{entry_cost}

-- the records that are declared, a function record twice: it takes six bytes at least, as a global does, whose wrapper and base may
-- get Block
abbrev pub count_of : Counts → ℕ
count_of k = k.types + 2 * k.functions + k.constants + k.globals

-- what is in use after `at` bytes of the sheet, where there was the writer x before it
pub record Spent (x : Writer) (at : ℕ) (k : Counts) (w : Writer) : Type 0 where
  pub lent : SameLent x w
  pub records : w.used.records ≡ x.used.records
  pub bytes : w.used.bytes ≡ x.used.bytes
  pub each : 3 * (count_of k + k.globals) ≤ at
  pub types : w.used.types ≤ 4 * count_of k
  pub literals : w.used.literals ≤ count_of k
  pub nulls : w.used.nulls ≤ count_of k
  pub values : w.used.values ≤ count_of k
  pub composites : w.used.composites ≤ count_of k
  pub blocked : w.used.blocked ≤ k.types + 2 * k.globals
  pub parts : w.used.parts ≤ at
  pub capabilities : w.used.capabilities ≤ at
  pub names : w.used.names ≤ at
  pub annotations : w.used.annotations ≤ 2 * at
  pub declarations : w.used.declarations ≤ 3 * at
  pub last : w.used.idgen.last ≤ 4294967295 + at

module _ (s : List ℕ) (x : Writer) (at : ℕ) (k : Counts) (w : Writer) (u : Spent x at k w) (f : WithinLimits k) (small : length s ≤ x.used.bytes)
    (recs : (length s ≤ 3 * x.used.records) ⊎ (704 ≤ x.used.records)) (tables : 20 * x.used.records + x.used.bytes ≤ length x.tables.now) (sections : 7 * x.used.bytes ≤ length x.sections.now) (short : length s ≤ 16384) where
  -- what three bytes each have paid for has a place
  within : (n : ℕ) → 3 * n ≤ length s → n ≤ 704 → n ≤ x.used.records
  within n paid few = ⊎_elim (λ l. omega arith) (λ l. omega arith) recs

  pub no_room : at ≤ length s → Room no_cost w
  no_room inside = let e = within (count_of k) (omega arith) (omega arith) in let b = within (k.types + 2 * k.globals) (omega arith) (omega arith) in omega arith

  module _ (n : Seen) (c : Counted n k) (l : ℕ) (least : 3 ≤ l) (inside : at + l ≤ length s) where
    -- one more declared record, by which b ids get Block
    more_room : (b : ℕ) → b ≤ 2 → 3 * b ≤ l → count_of k < 704 → Room (record_cost b l) w
    more_room b few paid h = let e = within (count_of k + 1) (omega arith) (omega arith) in let f = within (k.types + 2 * k.globals + b) (omega arith) (omega arith) in omega arith

    -- or two
    two_room : 6 ≤ l → count_of k + 2 ≤ 704 → Room (entry_cost 4 l) w
    two_room long h = let e = within (count_of k + 2) (omega arith) (omega arith) in let f = within (k.types + 2 * k.globals) (omega arith) (omega arith) in omega arith

    abbrev Roomy : ℕ → Type 0
    Roomy r = ((r ≡ 4) ⊎ (r ≡ 6) → 6 ≤ l) → room n r ≡ true → Room (entry_cost r l) w × ((v : Writer) → Grown (entry_cost r l) w v → Spent x (at + l) (add_counts k r at) v)

    roomy_1 : Roomy 1
    unfolding add_counts
    roomy_1 long h = (no_room (omega arith), λ v g. omega arith)

    roomy_2 : Roomy 2
    unfolding add_counts
    roomy_2 long h = (no_room (omega arith), λ v g. omega arith)

    roomy_3 : Roomy 3
    unfolding add_counts
    roomy_3 long h = let q = rw c.types at (ltb-true (length n.types) 256 h) in (more_room 1 (omega arith) (omega arith) (omega arith), λ v g. omega arith)

    roomy_4 : Roomy 4
    unfolding add_counts
    roomy_4 long h = let q = rw c.functions at (ltb-true (length n.functions) 64 h) in let six = long (inl refl) in (two_room six (omega arith), λ v g. omega arith)

    roomy_5 : Roomy 5
    unfolding add_counts
    roomy_5 long h = let q = rw c.constants at (ltb-true (length n.constants) 256 h) in (more_room 0 (omega arith) (omega arith) (omega arith), λ v g. omega arith)

    roomy_6 : Roomy 6
    unfolding add_counts
    roomy_6 long h = let q = rw c.globals at (ltb-true (length n.globals) 64 h) in let six = long (inr refl) in (more_room 2 (omega arith) (omega arith) (omega arith), λ v g. omega arith)

    pub roomy : (r : ℕ) → 0 < r → r ≤ 6 → Roomy r
    roomy = by_rank Roomy roomy_1 roomy_2 roomy_3 roomy_4 roomy_5 roomy_6
