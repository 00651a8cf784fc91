-- The ways out of a record's turn: which test answers, and that what is declared is the definition's entry. The record's rank
-- says which fields its entry is read by, so each arm is the promise of the crate that writes its kind.
use Prim.Native.Nat.{ℕ, ◌+◌, ◌≤◌, ◌<◌}
use mathlib.Core.Path.{◌≡◌, refl, sym, ap, ◌∙◌, subst}
use mathlib.Core.Bool.{true}
use mathlib.Core.List.{List, ◌∷◌, [], map}
use native.Mathlib.Omega.{arith}
use borrow.Author.Tests.{ltb-true}
use lib.Dec.{ltb}
use lib.ListN.{length, take, length-take, length-drop}
use lib.Seq.{length-take-le}
use Rattle.definition.specs.Bytes.{u8_at}
use Rattle.definition.specs.Choice.{unless}
use Rattle.definition.specs.Sheet.{Record, Fields, Entry, Remap, record_at, Options, entry_of, function_fields, tag_rank, available, remap}
use Rattle.definition.specs.Tests.{Seen, below, reading_test}
use Rattle.definition.specs.State.{State}
use Rattle.definition.specs.Rules.{declare_entry, declare_type, declare_constant}
use Rattle.definition.specs.Unfit.{constant_fits, global_fits, fitness_test}
use Rattle.definition.specs.Operations.{record_test}
use Rattle.records.specs.declared.Counts.{Counts}
use Rattle.definition.proofs.Truth.{both}
use Rattle.records.proofs.Chain.{first_stop, first_go}
use Rattle.sheet.proofs.Adding.{by_rank, rank_most, placed_of}
use Rattle.sheet.proofs.Told.{Told, told, names_types, is_function, function_whole}
use Rattle.sheet.specs.Reading.{Looked}
use Rattle.writer.specs.declared.Writer.{Writer}
use Rattle.writer.specs.Cost.{record_cost}
use Rattle.writer.specs.Held.{Held, Room, Grown}
use Rattle.writer.specs.Steps.{Kept}
use Rattle.writer_types.specs.Tested.{TypeTested}
use Rattle.writer_constants.specs.Tested.{ConstantTested}
use Rattle.writer_constants.specs.Entered.{ConstantWritten}
use Rattle.writer_functions.specs.Written.{function_cost, FunctionWritten}
use Rattle.writer_globals.specs.Records.{global_in, GlobalTested}
use Rattle.writer_globals.specs.Globals.{GlobalKept}
use Rattle.definition.specs.Sheet as Defined
use Rattle.records.specs.Places.{types_from, remap_from, type_of_record as record_type}
use Rattle.availability.specs.declared.Available.{Available}
use Rattle.zeroable.specs.Memo.{Memo}
use Rattle.std.specs.Prelude.{Result, Ok, Err}
use Rattle.refusals.specs.declared.Refusal.{Refusal}
use Rattle.refusals.specs.Numbers.{test_number}
use Rattle.refusals.proofs.Tests.{no_answer}
use Rattle.sheet_writer.specs.Turning.{Before, ReadyIn, TestsType, TestsUnfit, ComesTo, EntryWritten, WrittenIn, entry_cost, cost_at}
use Rattle.sheet_writer.proofs.Given.{type_of, constant_of, global_of, is_type, is_constant, is_global, is_available_lem, is_remap}

-- ---- before the turn: it is ready, and q is what tests 5 to 12 answer

body_few : (rest : List ℕ) → length rest ≤ 16384 → length (record_at rest).body < 65536
unfolding record_at
body_few rest h = simp (length-take, length-drop) (omega arith)

one_below : (x n : ℕ) → below n (x ∷ []) ≡ true → x < n
one_below x n h = ltb-true x n (both (ltb x n) true h).0

module _ {s rs ts : List ℕ} {k : Counts} {rest : List ℕ} {i : ℕ} {m : List ℕ} {w : Writer} (ready : ReadyIn s rs ts k rest i m w)
    {q : ℕ} (reads : (n : Seen) → Looked s rs ts k n → q ≡ reading_test n (record_at rest)) where
  abbrev r : Record
  r = record_at rest

  abbrev l : ℕ
  l = length r.body + 3

  abbrev us : List Defined.TypeEntry
  us = types_from s ts k.types

  -- one of those tests refuses
  pub read_first : (a : Available) → (q ≡ 0 → ⊥) → (n : Seen) → Before s rs ts k a n → (x : State) → Held w x → q ≡ record_test (record { seen = n; state = x }) r
  unfolding record_test
  read_first a f n b x h = first_stop q (reading_test n r) _ (reads n b.looked) f

  -- ---- all of them pass

  module _ (passed : q ≡ 0) where
    tested : reading_test ready.seen r ≡ 0
    tested = sym (reads ready.seen ready.looked) ∙ passed

    passed_told : (f : Fields Entry) → entry_of r ≡ f → Told ready.seen r f
    passed_told f e = told ready.seen r f e tested

    -- the types that were read are counted, and stand in their slice
    counted_types : length ready.seen.types ≡ k.types
    counted_types = ready.looked.counted.types

    counted_places : length (take k.types ts) ≡ k.types
    counted_places = length-take-le k.types ts (omega (arith, ready.stored.types))

    -- room for a record of a rank
    rank_room : (j : ℕ) → tag_rank r.tag ≡ j → Room (entry_cost j l) w
    rank_room j e = subst (λ (x : ℕ). Room (entry_cost x l) w) e (ready.room tested)

    -- ---- what each kind asks of its record

    pub type_asks : tag_rank r.tag ≡ 3 → (length (take k.types ts) < 65536) × (TypeTested r × Room (record_cost 1 l) w)
    type_asks e =
        let t = passed_told (type_of r) (is_type r e) in
        (omega (arith, ready.few, counted_places), (record { whole = t.whole; values = t.values }, rank_room 3 e))

    pub function_asks : tag_rank r.tag ≡ 4 → Room (function_cost (u8_at r.body 2)) w
    function_asks e =
        let x = rank_room 4 e in
        let h = function_whole ready.seen r e tested in
        record { rows = omega (arith, x.rows, h); words = omega (arith, x.words, h) }

    pub constant_asks : tag_rank r.tag ≡ 5 → ConstantTested (length (take k.types ts)) r × (Room (record_cost 0 l) w × Memo us m)
    constant_asks e =
        let t = passed_told (constant_of r) (is_constant r e) in
        (record { whole = t.whole; values = t.values; types = rw (counted_places, ← counted_types) (names_types ready.seen r (constant_of r) t); small = body_few rest ready.small }, (rank_room 5 e, ready.memo))

    pub global_asks : tag_rank r.tag ≡ 6 → GlobalTested (length (take k.types ts)) r.body × (Room (record_cost 2 l) w × Memo us m)
    global_asks e =
        let t = passed_told (global_of r) (is_global r e) in
        (record { whole = t.whole; values = t.values; type = one_below _ (length (take k.types ts)) (rw (counted_places, ← counted_types) (names_types ready.seen r (global_of r) t)) }, (rank_room 6 e, ready.memo))

    -- ---- what a kind comes to is what the record comes to

    -- a rank that is none of these is that of Available or Remap, whose entries are not declared
    other : (P : Entry → Type 0) → ((cs : List ℕ) → P (available cs)) → ((x : Remap) → P (remap x)) → (j : ℕ) → j ≡ tag_rank r.tag → (j ≡ 3 → ⊥) → (j ≡ 4 → ⊥) → (j ≡ 5 → ⊥) → (j ≡ 6 → ⊥) → P (entry_of r).value
    other P a x j e f g h i = by_rank (λ (y : ℕ). tag_rank r.tag ≡ y → P (entry_of r).value)
        (λ z. subst (λ (y : Fields Entry). P y.value) (sym (is_available_lem r z)) (a _))
        (λ z. subst (λ (y : Fields Entry). P y.value) (sym (is_remap r z)) (x _))
        (λ z. absurd (f (e ∙ z))) (λ z. absurd (g (e ∙ z))) (λ z. absurd (h (e ∙ z))) (λ z. absurd (i (e ∙ z)))
        (tag_rank r.tag) (placed_of ready.seen r tested).ranked (rank_most r.tag) refl

    module _ (o : Options) (a : Available) {v : Writer} {m' : List ℕ} where
      -- its entry's test decides, since those before passed, and its entry is what is written
      comes : (c : Result (Unit {0}) Refusal) → Memo us m' → ((n : Seen) → Before s rs ts k a n → (x : State) → Held w x → test_number c ≡ fitness_test n x (entry_of r).value)
          → ((q : Refusal) → c ≡ Err q → v ≡ w) → (c ≡ Ok tt → EntryWritten s rs ts k rest o w v) → WrittenIn s rs ts k a rest o w c v m'
      unfolding record_test
      comes c memo f same g = record {
        memo = memo;
        refused = same;
        told = λ n b x h. first_go q (reading_test n r) _ (test_number c) (reads n b.looked) passed (f n b x h);
        written = g;
      }

      pub type_comes : tag_rank r.tag ≡ 3 → {c : Result (Unit {0}) Refusal} → Memo us m' → ComesTo (TestsType a r) (Kept (record_cost 1 l) (declare_type o.debug us (record_type r)) w v) w v c
          → WrittenIn s rs ts k a rest o w c v m'
      unfolding fitness_test
      type_comes e {c = c} memo d = comes c memo (λ n b x h. d.told n.available b.available ∙ sym (ap (λ (f : Fields Entry). fitness_test n x f.value) (is_type r e))) d.refused (λ z. record {
        grown = rw e (d.written z).grown;
        held = λ n b x h. let u = sym b.types in subst (Held v)
            ((λ j. declare_type o.debug (u j) (record_type r) x) ∙ sym (ap (λ (f : Fields Entry). declare_entry o n f.value x) (is_type r e))) ((d.written z).held x h);
      })

      -- a function record has no test of its own
      pub function_comes : tag_rank r.tag ≡ 4 → Memo us m' → FunctionWritten (function_cost (u8_at r.body 2)) (function_fields r.body).value w v
          → WrittenIn s rs ts k a rest o w (Ok tt) v m'
      unfolding fitness_test
      function_comes e memo d = comes (Ok tt) memo (λ n b x h. sym (ap (λ (f : Fields Entry). fitness_test n x f.value) (is_function r e))) (λ q z. absurd (no_answer (sym z))) (λ z. record {
        grown = let h = function_whole ready.seen r e tested in rw e (omega (arith, d.grown, h));
        held = λ n b x h. subst (Held v) (sym (ap (λ (f : Fields Entry). declare_entry o n f.value x) (is_function r e))) (d.held x h);
      })

      pub constant_comes : tag_rank r.tag ≡ 5 → {c : Result (Unit {0}) Refusal} → Memo us m'
          → ComesTo (TestsUnfit (λ x. constant_fits us x (Defined.constant_fields r.tag r.body).value) w) (ConstantWritten (record_cost 0 l) us (Defined.constant_fields r.tag r.body).value w v) w v c
          → WrittenIn s rs ts k a rest o w c v m'
      unfolding fitness_test
      constant_comes e {c = c} memo d = comes c memo (λ n b x h.
          d.told x (w.sections.now, h) ∙ ap (λ (vs : List Defined.TypeEntry). unless (constant_fits vs x (Defined.constant_fields r.tag r.body).value) 13 0) (sym b.looked.types)
          ∙ sym (ap (λ (f : Fields Entry). fitness_test n x f.value) (is_constant r e))) d.refused (λ z. record {
            grown = rw e (d.written z).grown;
            held = λ n b x h. let u = sym b.types in subst (Held v)
                ((λ j. declare_constant (u j) (Defined.constant_fields r.tag r.body).value x) ∙ sym (ap (λ (f : Fields Entry). declare_entry o n f.value x) (is_constant r e))) ((d.written z).held x h);
          })

      pub global_comes : tag_rank r.tag ≡ 6 → {c : Result (Unit {0}) Refusal} → Memo us m'
          → ComesTo (TestsUnfit (λ x. global_fits us x (global_in r.body)) w) (GlobalKept (record_cost 2 l) o us (map (remap_from s) (take k.remaps rs)) (global_in r.body) w v) w v c
          → WrittenIn s rs ts k a rest o w c v m'
      unfolding fitness_test
      global_comes e {c = c} memo d = comes c memo (λ n b x h.
          d.told x (w.sections.now, h) ∙ ap (λ (vs : List Defined.TypeEntry). unless (global_fits vs x (global_in r.body)) 13 0) (sym b.looked.types)
          ∙ sym (ap (λ (f : Fields Entry). fitness_test n x f.value) (is_global r e))) d.refused (λ z. record {
            grown = rw e (d.written z).grown;
            held = λ n b x h. subst (Held v)
                (sym (ap (λ (f : Fields Entry). declare_entry o n f.value x) (is_global r e))) ((d.written z).held n b.types b.remaps x h);
          })

    -- Available and Remap: neither a test nor a declaration
    pub other_comes : (o : Options) (a : Available) → (j : ℕ) → j ≡ tag_rank r.tag → (j ≡ 3 → ⊥) → (j ≡ 4 → ⊥) → (j ≡ 5 → ⊥) → (j ≡ 6 → ⊥) → WrittenIn s rs ts k a rest o w (Ok tt) w m
    unfolding fitness_test
    other_comes o a j e f g h i = comes o a (Ok tt) ready.memo
        (λ n b x y. other (λ (z : Entry). 0 ≡ fitness_test n x z) (λ cs. refl) (λ v. refl) j e f g h i) (λ q z. refl) (λ z. record {
          grown = still;
          held = λ n b x y. other (λ (v : Entry). Held w (declare_entry o n v x)) (λ cs. y) (λ v. y) j e f g h i;
        })
      where
        still : Grown (cost_at rest) w w
        still = omega arith
