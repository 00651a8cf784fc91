-- The loop over the records: some state is held, and what is left of the sheet, from here and with what was read, comes to
-- what the whole comes to. How the loop begins, one turn, and its ways out, each an instance of the laws for any state.
use Prim.Native.Nat.{ℕ, ◌+◌, ◌-◌, ◌≤◌, ◌<◌}
use mathlib.Core.Path.{◌≡◌, refl, sym, ap, ◌∙◌, subst}
use mathlib.Core.Bool.{true, false}
use mathlib.Core.Logic.{⊎_elim}
use mathlib.Core.List.{List, []}
use Rattle.std.specs.Prelude.{None}
use native.Mathlib.Omega.{arith}
use lib.ListN.{length, drop, get_or, length-drop}
use lib.Seq.{length-take-le}
use Rattle.definition.specs.Bytes.{u16_at}
use Rattle.definition.specs.Sheet.{Entry, Function, Global, record_at, entry_of, tag_rank, start_of, flags_of, Options, options_of, available, remap, type, function, constant, global}
use Rattle.definition.specs.Tests.{Seen, refused, add, add_record, header_test, no_record, space_fits, binding_fits, values_fit, reading_test}
use Rattle.definition.specs.State.{State, empty}
use Rattle.definition.specs.Rules.{declare_entry}
use Rattle.definition.specs.Operations.{Progress, record_test, declare_record, no_global}
use Rattle.definition.proofs.Truth.{first_passed}
use Rattle.definition.proofs.Lists.{get_or_snoc}
use Rattle.records.specs.declared.Counts.{Counts}
use Rattle.records.specs.Places.{Places, seen_of, Ample, WithinLimits, record_from}
use Rattle.records.proofs.Places.{header_size, whole}
use Rattle.records.proofs.Loop.{Going, start, goes_on, next_inside, ends_fit, ends_four, ends_refused, judge_go}
use Rattle.sheet.specs.declared.holding.Holding.{Holding}
use Rattle.sheet.specs.Hash.{HashFor, Hashed}
use Rattle.sheet.specs.Holding.{SameHeld, no_counts, add_counts, PassedAt, RecordHeld as Kept}
use Rattle.sheet.proofs.Told.{told, function_long}
use Rattle.sheet.proofs.Adding.{looked, stored, counted, placed_of, rank_most}
use Rattle.zeroable.specs.Memo.{Memo}
use Rattle.availability.specs.declared.Available.{Available}
use Rattle.availability.specs.Flags.{Flagged}
use Rattle.zeroable.proofs.Kept.{grows, empty as nothing_known}
use Rattle.writer.specs.declared.Used.{Used}
use Rattle.writer.specs.declared.Writer.{Writer}
use Rattle.writer.specs.Held.{Held, Room, Grown}
use Rattle.writer.specs.Steps.{Emptied}
use Rattle.std.specs.Prelude.{Result, Ok, Err}
use Rattle.refusals.specs.declared.Refusal.{Refusal}
use Rattle.refusals.specs.Numbers.{number_of, test_number}
use Rattle.refusals.proofs.Tests.{not_zero}
use Rattle.sheet_writer.specs.Turning.{Before, ReadyIn, RecordWritten, WrittenIn, cost_at}
use Rattle.sheet_writer.specs.Whole.{records_of, before_bound, Capacity, GlobalsFit, SheetFits}
use Rattle.sheet_writer.proofs.Given.{global_long}
use Rattle.sheet_writer.proofs.Rooms.{Spent, no_room, roomy}

-- what was read and what the rules have come to
abbrev pub progress_of : List ℕ → Places → Counts → List Function → State → Progress
progress_of s p k fs x = record { seen = seen_of s p k fs; state = x }

-- at the loop's head
pub record Holds (s : List ℕ) (x : Writer) (m₀ m : List ℕ) (p : Places) (at : ℕ) (k : Counts) (v : Available) (w : Writer) : Type 0 where
  pub memo-length : length m ≡ length m₀
  pub ample : Ample p
  pub few : WithinLimits k
  pub hashed : Hashed s p.types k.types
  pub functions : List Function
  pub function_count : length functions ≡ k.functions
  pub available : Flagged (seen_of s p k functions).available v
  pub small : length s ≤ 16384
  pub used : Spent x at k w
  pub memo : Memo (seen_of s p k functions).types m
  pub globals_fit : GlobalsFit (seen_of s p k functions)
  pub state : State
  pub held : Held w state
  pub going : Going record_test (declare_record (options_of (flags_of s))) (records_of s) s at (progress_of s p k functions state)

-- what was read, as a turn asks for it
pub before : (s : List ℕ) (p : Places) (k : Counts) (fs : List Function) (v : Available) → Ample p → WithinLimits k → length fs ≡ k.functions → Flagged (seen_of s p k fs).available v → Before s p.remaps p.types k v (seen_of s p k fs)
before s p k fs v a f e h = record { looked = looked s p k fs a f e; available = h }

pub begins : (s m : List ℕ) (p : Places) (start' : ℕ) (k : Counts) (v : Available) (x w : Writer) → header_test s ≡ 0 → Ample p → ((j : ℕ) → get_or m j 0 ≡ 0) → k ≡ no_counts → Flagged None v
    → start' ≡ start_of s → start' ≤ 4294967295 → Emptied start' x w → Holds s w m m p 6 k v w
unfolding space_fits binding_fits
begins s m p start' k v x w h a e ek ev es low emptied =
    let z = header_size s h in
    rw ek (record {
      memo-length = refl;
      ample = a;
      few = record { remaps = omega arith; types = omega arith; functions = omega arith; constants = omega arith; globals = omega arith };
      hashed = λ i l. absurd (omega arith);
      functions = [];
      function_count = refl;
      available = ev;
      small = z.1;
      used = record {
        lent = record { tables = refl; sections = refl; tables_long = refl; sections_long = refl };
        records = refl;
        bytes = refl;
        each = omega arith;
        types = rw emptied.fresh.used (omega arith);
        literals = rw emptied.fresh.used (omega arith);
        nulls = rw emptied.fresh.used (omega arith);
        values = rw emptied.fresh.used (omega arith);
        composites = rw emptied.fresh.used (omega arith);
        blocked = rw emptied.fresh.used (omega arith);
        parts = rw emptied.fresh.used (omega arith);
        capabilities = rw emptied.fresh.used (omega arith);
        names = rw emptied.fresh.used (omega arith);
        annotations = rw emptied.fresh.used (omega arith);
        declarations = rw emptied.fresh.used (omega arith);
        last = rw emptied.fresh.used (omega arith);
      };
      memo = nothing_known [] m (omega arith) e;
      globals_fit = λ i. refl;
      state = empty (start_of s);
      held = subst (λ (j : ℕ). Held w (empty j)) es emptied.fresh.held;
      going = start record_test (declare_record (options_of (flags_of s))) s 6 (progress_of s p no_counts [] (empty (start_of s))) z.0;
    })

-- a turn in what is held of a sheet, by the sheet itself and by its options
pub written_in : {s : List ℕ} (g : Holding) (a : Available) (rest : List ℕ) {o p : Options} {w v : Writer} {r : Result (Unit {0}) Refusal} {m : List ℕ} → g.sheet.now ≡ s → o ≡ p
    → RecordWritten g a rest o w r v m → WrittenIn s g.remaps.now g.types.now g.counts a rest p w r v m
written_in g a rest {w = w} {v = v} {r = r} {m = m} e f t = subst (λ (x : List ℕ × Options). WrittenIn x.0 g.remaps.now g.types.now g.counts a rest x.1 w r v m) (λ i. (e i, f i)) t

pub still_held : {g h i : Holding} → SameHeld g h → SameHeld h i → SameHeld g i
still_held p q = record {
  sheet = q.sheet ∙ p.sheet;
  remaps = q.remaps ∙ p.remaps;
  types = q.types ∙ p.types;
  constants = q.constants ∙ p.constants;
  globals = q.globals ∙ p.globals;
  remaps_long = q.remaps_long ∙ p.remaps_long;
  types_long = q.types_long ∙ p.types_long;
  constants_long = q.constants_long ∙ p.constants_long;
  globals_long = q.globals_long ∙ p.globals_long;
}

-- emptied, a writer has the room that it had
pub same_room : {s m : List ℕ} {st : ℕ} {x w : Writer} → Emptied st x w → Capacity s x m → Capacity s w m
same_room e cap = record {
  for_bytes = rw e.fresh.used cap.for_bytes;
  for_records = rw e.fresh.used cap.for_records;
  tables = rw e.fresh.used (omega (arith, cap.tables, e.lent));
  sections = rw e.fresh.used (omega (arith, cap.sections, e.lent));
  memo = cap.memo;
  memo-length = cap.memo-length;
}

-- a memo speaks of the types read, and has a place for each; what is no type changes nothing
memo_added : (n : Seen) (r : ℕ) (e : Entry) (m : List ℕ) → length (add n r e).types ≤ length m → Memo n.types m → Memo (add n r e).types m
unfolding add
memo_added n r (available cs) m l h = h
memo_added n r (remap x) m l h = h
memo_added n r (type t) m l h = grows n.types t m l h
memo_added n r (function f) m l h = h
memo_added n r (constant c) m l h = h
memo_added n r (global g) m l h = h

-- a global that is added passed test 10
fits_added : (n : Seen) (r : ℕ) (e : Entry) → values_fit e ≡ true → GlobalsFit n → GlobalsFit (add n r e)
unfolding add
fits_added n r (available cs) v h = h
fits_added n r (remap x) v h = h
fits_added n r (type t) v h = h
fits_added n r (function f) v h = h
fits_added n r (constant c) v h = h
fits_added n r (global g) v h = get_or_snoc (λ (y : Global). values_fit (global y) ≡ true) n.globals g no_global h v

-- a record that is there whole takes the bytes of its length, its tag and its body
record_length : (rest : List ℕ) → no_record rest ≡ false → (length (record_at rest).body + 3 ≡ 2 + u16_at rest 0) × (3 ≤ 2 + u16_at rest 0)
unfolding record_at
record_length rest e =
    let z = whole rest e in
    let l = length-take-le (u16_at rest 0 - 1) (drop 3 rest) (simp length-drop (omega (arith, z.0, z.1))) in
    (omega (arith, l, z.0), omega (arith, z.0))

module _ (s : List ℕ) (x : Writer) (m₀ m : List ℕ) (p : Places) (at : ℕ) (k : Counts) (v : Available) (w : Writer)
    (h : Holds s x m₀ m p at k v w) (cap : Capacity s x m₀) (ok : header_test s ≡ 0) where
  abbrev o : Options
  o = options_of (flags_of s)

  abbrev now : Progress
  now = progress_of s p k h.functions h.state

  -- what was read
  abbrev seen : Seen
  seen = seen_of s p k h.functions

  judged : records_of s ≡ before_bound s
  judged = sym (judge_go _ _ ok)

  pub fits : (y : Writer) {st : ℕ} → Emptied st y x → length s ≤ at → SheetFits s p y k w
  fits y emptied l = record {
    progress = now;
    same = ends_fit record_test (declare_record o) (records_of s) s at now h.going l ∙ judged;
    functions = h.functions;
    seen = refl;
    globals = h.globals_fit;
    held = h.held;
    ample = h.ample;
    few = h.few;
    room = no_room s x at k w h.used h.few (cap.for_bytes h.small) cap.for_records cap.tables cap.sections h.small h.going.inside;
    size = h.used.bytes ∙ ap (λ (u : Used). u.bytes) emptied.fresh.used;
  }

  module _ (lt : at < length s) (rest : List ℕ) (e : rest ≡ drop at s) where
    pub four : no_record rest ≡ true → refused 4 ≡ before_bound s
    four q = ends_four record_test (declare_record o) (records_of s) s at now h.going lt (rw e at q) ∙ judged

    module _ (one : no_record rest ≡ false) where
      whole_record : no_record (drop at s) ≡ false
      whole_record = rw e at one

      -- the record's bytes, and that they are inside the sheet
      abbrev l : ℕ
      l = length (record_at rest).body + 3

      inside : at + l ≤ length s
      inside = omega (arith, (record_length rest one).0, rw (← e) at (next_inside record_test (declare_record o) (records_of s) s at now h.going lt whole_record))

      bytes_left : length rest ≤ 16384
      bytes_left = rw e (simp length-drop (omega (arith, h.small)))

      tested_room : reading_test seen (record_at rest) ≡ 0 → Room (cost_at rest) w × ((v : Writer) → Grown (cost_at rest) w v → Spent x (at + l) (add_counts k (tag_rank (record_at rest).tag) at) v)
      tested_room z =
          let q = placed_of seen (record_at rest) z in
          roomy s x at k w h.used h.few (cap.for_bytes h.small) cap.for_records cap.tables cap.sections h.small
          seen (counted s p k h.functions h.ample h.few h.function_count) l (omega arith) inside (tag_rank (record_at rest).tag) q.ranked (rank_most (record_at rest).tag) (⊎_elim (λ e. omega (arith, function_long seen (record_at rest) e z)) (λ e. omega (arith, global_long (record_at rest) e seen z))) q.room

      pub ready : (i : ℕ) → HashFor (record_at rest) i → ReadyIn s p.remaps p.types k rest i m w
      ready i hi = record {
        seen = seen;
        looked = looked s p k h.functions h.ample h.few h.function_count;
        stored = stored s p k h.ample h.few h.hashed;
        hash = hi;
        few = h.few.types;
        small = bytes_left;
        memo = h.memo;
        room = λ z. (tested_room z).0;
      }

      module _ (t : Result (Unit {0}) Refusal) (written : Writer) (m' : List ℕ) (turn : WrittenIn s p.remaps p.types k v rest o w t written m') where
        -- the definition's own test, in the state that is held
        tested : test_number t ≡ record_test now (record_at (drop at s))
        tested = rw (← e) (turn.told seen (before s p k h.functions v h.ample h.few h.function_count h.available) h.state h.held)

        pub refuses : (r : Refusal) → t ≡ Err r → refused (number_of r) ≡ before_bound s
        refuses r q = ends_refused record_test (declare_record o) (records_of s) s at now h.going lt whole_record (number_of r) (sym (ap test_number q) ∙ tested) (not_zero r) ∙ judged

        module _ (z : t ≡ Ok tt) where
          read : reading_test seen (record_at (drop at s)) ≡ 0
          unfolding record_test
          read = (first_passed (reading_test seen (record_at (drop at s))) _ (sym tested ∙ ap test_number z)).0

          pub passed : PassedAt s p k at
          passed = record { ample = h.ample; few = h.few; hashed = h.hashed; small = omega (arith, h.small); functions = h.functions; counted = h.function_count; tested = read }

          pub turns : (p' : Places) (k' : Counts) (v' : Available) (at' : ℕ) → Kept s p k at p' k' → ((n : Seen) → Flagged n.available v → Flagged (add_record n (record_at rest)).available v') → at' ≡ at + (2 + u16_at rest 0)
              → length m' ≡ length m → Holds s x m₀ m' p' at' k' v' written
          unfolding declare_record add_record
          turns p' k' v' at' a av ea lm =
              let fs = (add_record seen (record_from s at)).functions in
              let counts : length fs ≡ k'.functions = a.functions h.functions h.function_count in
              let b = looked s p k h.functions h.ample h.few h.function_count in
              let y = turn.written z in
              let state = declare_entry o seen (entry_of (record_at (drop at s))).value h.state in
              let u = (tested_room (rw e read)).1 written y.grown in
              let en : at' ≡ at + l = omega (arith, ea, (record_length rest one).0) in
              let places : length (seen_of s p' k' fs).types ≤ length m' = omega (arith, (counted s p' k' fs a.ample a.few counts).types, a.few.types, lm, h.memo-length, cap.memo-length) in
              record {
                memo-length = lm ∙ h.memo-length;
                ample = a.ample;
                few = a.few;
                hashed = a.hashed;
                functions = fs;
                function_count = counts;
                available = subst (λ (n : Seen). Flagged n.available v') (sym (a.seen h.functions)) (subst (λ (i : List ℕ). Flagged (add_record seen (record_at i)).available v') e (av seen h.available));
                small = h.small;
                used = rw (en, a.counts, ← e) u;
                memo = subst (λ (n : Seen). Memo n.types m') (sym (a.seen h.functions)) (memo_added seen (tag_rank (record_from s at).tag) (entry_of (record_from s at)).value m' (subst (λ (n : Seen). length n.types ≤ length m') (a.seen h.functions) places) turn.memo);
                globals_fit = subst GlobalsFit (sym (a.seen h.functions)) (fits_added seen (tag_rank (record_from s at).tag) (entry_of (record_from s at)).value (told seen (record_from s at) (entry_of (record_from s at)) refl read).values h.globals_fit);
                state = state;
                held = subst (λ (i : List ℕ). Held written (declare_entry o seen (entry_of (record_at i)).value h.state)) e (y.held seen b h.state h.held);
                going = rw (ea, e, a.seen h.functions) (goes_on record_test (declare_record o) (records_of s) s at now h.going lt whole_record (sym tested ∙ ap test_number z));
              }
