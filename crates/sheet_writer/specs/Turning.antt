-- A record's turn: what is asked before it, and what it promises.
use Rattle.std.specs.Prelude.{ℕ, ◌+◌, ◌≤◌, ◌≡◌, Bool, List, eqb, length}
use Rattle.std.specs.Prelude.{Option, Result, Ok, Err}
use Rattle.definition.specs.Bytes.{name_end}
use Rattle.definition.specs.Choice.{pick, unless}
use Rattle.definition.specs.Sheet.{Record, Options, record_at, type_fields, entry_of, tag_rank}
use Rattle.definition.specs.Shapes.{shape_of}
use Rattle.definition.specs.Tests.{Seen, reading_test}
use Rattle.definition.specs.State.{State}
use Rattle.definition.specs.Rules.{declare_entry}
use Rattle.definition.specs.Unfit.{shape_available}
use Rattle.definition.specs.Operations.{record_test}
use Rattle.records.specs.declared.Counts.{Counts}
use Rattle.records.specs.Places.{types_from}
use Rattle.sheet.specs.declared.holding.Holding.{Holding}
use Rattle.sheet.specs.Hash.{HashFor}
use Rattle.sheet.specs.Reading.{Looked, Stored}
use Rattle.zeroable.specs.Memo.{Memo}
use Rattle.availability.specs.declared.Available.{Available}
use Rattle.availability.specs.Flags.{Flagged}
use Rattle.writer.specs.declared.Writer.{Writer}
use Rattle.writer.specs.Cost.{Cost, no_cost, a_composite, record_cost, ◌⊕◌}
use Rattle.writer.specs.Held.{Held, HeldByTables, Room, Grown}
use Rattle.refusals.specs.declared.Refusal.{Refusal}
use Rattle.refusals.specs.Numbers.{test_number}

-- n is what was read: its counts, remaps and types, and what is available
pub record Before (s rs ts : List ℕ) (k : Counts) (a : Available) (n : Seen) : Type 0 where
  pub looked : Looked s rs ts k n
  pub available : Flagged n.available a

-- a record of n bytes and a rank: Available and Remap are not declared, and a function record may declare void too; Block goes on a
-- struct, or on a global's wrapper and base
abbrev pub entry_cost : ℕ → ℕ → Cost
entry_cost rank n =
    pick (eqb rank 3) (record_cost 1 n)
    (pick (eqb rank 4) (record_cost 0 n ⊕ a_composite 0)
    (pick (eqb rank 5) (record_cost 0 n)
    (pick (eqb rank 6) (record_cost 2 n) no_cost)))

-- the cost of the record at the front of what is left
abbrev pub cost_at : List ℕ → Cost
cost_at rest = entry_cost (tag_rank (record_at rest).tag) (length (record_at rest).body + 3)

-- what a turn asks: something was read before and stands in the slices, h is the record's hash if it is a type, the memo speaks of
-- the types read, and there is room for the record if it passes
pub record ReadyIn (s rs ts : List ℕ) (k : Counts) (rest : List ℕ) (h : ℕ) (m : List ℕ) (w : Writer) : Type 0 where
  pub seen : Seen
  pub looked : Looked s rs ts k seen
  pub stored : Stored s rs ts k
  pub hash : HashFor (record_at rest) h
  pub few : k.types ≤ 256
  pub small : length rest ≤ 16384
  pub memo : Memo (types_from s ts k.types) m
  pub room : reading_test seen (record_at rest) ≡ 0 → Room (cost_at rest) w

abbrev pub Ready : Holding → List ℕ → ℕ → List ℕ → Writer → Type 0
Ready g rest h m w = ReadyIn g.sheet.now g.remaps.now g.types.now g.counts rest h m w

-- test 14 of a type's record, by the flags of what is available
abbrev pub TestsType : Available → Record → ℕ → Type 0
TestsType a r q = (o : Option (List ℕ)) → Flagged o a → q ≡ unless (shape_available o (shape_of (type_fields r.tag r.body (name_end r.body 0)).value)) 14 0

-- test 13, in whatever state the tables hold
abbrev pub TestsUnfit : (State → Bool) → Writer → ℕ → Type 0
TestsUnfit fits w q = (x : State) → HeldByTables w x → q ≡ unless (fits x) 13 0

-- what a record of one kind comes to: its own test answers, and where it is passed the entry is written; where not, the writer is as
-- it was
pub record ComesTo (Tests : ℕ → Type 0) (Written : Type 0) (w v : Writer) (r : Result (Unit {0}) Refusal) : Type 0 where
  pub told : Tests (test_number r)
  pub refused : (q : Refusal) → r ≡ Err q → v ≡ w
  pub written : r ≡ Ok tt → Written

-- the record's entry is declared
pub record EntryWritten (s rs ts : List ℕ) (k : Counts) (rest : List ℕ) (o : Options) (w v : Writer) : Type 0 where
  pub grown : Grown (cost_at rest) w v
  pub held : (n : Seen) → Looked s rs ts k n → (x : State) → Held w x → Held v (declare_entry o n (entry_of (record_at rest)).value x)

-- the turn whole: it answers as the definition's test, and where that is passed the entry is declared; where not, the writer is as it
-- was
pub record WrittenIn (s rs ts : List ℕ) (k : Counts) (a : Available) (rest : List ℕ) (o : Options) (w : Writer) (r : Result (Unit {0}) Refusal) (v : Writer) (m : List ℕ) : Type 0 where
  pub memo : Memo (types_from s ts k.types) m
  pub told : (n : Seen) → Before s rs ts k a n → (x : State) → Held w x → test_number r ≡ record_test (record { seen = n; state = x }) (record_at rest)
  pub refused : (q : Refusal) → r ≡ Err q → v ≡ w
  pub written : r ≡ Ok tt → EntryWritten s rs ts k rest o w v

abbrev pub RecordWritten : Holding → Available → List ℕ → Options → Writer → Result (Unit {0}) Refusal → Writer → List ℕ → Type 0
RecordWritten g a rest o w r v m = WrittenIn g.sheet.now g.remaps.now g.types.now g.counts a rest o w r v m
