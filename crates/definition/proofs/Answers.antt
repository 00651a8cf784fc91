-- Demand 1. Each test answers 0 or a number of its own, none above 15; so the header and every record, and then what is judged, are
-- fit, or refused by one of 1 to 15 (`judged_known`, by the fuel of `records`). Declare adds 16 and puts words only where they fit,
-- Wrapped adds 17.
use Prim.Native.Nat.{ℕ, zero, suc, ◌≤◌}
use mathlib.Core.Path.{◌≡◌, refl}
use mathlib.Core.Bool.{Bool, true, false, not}
use mathlib.Core.Logic.{◌⊎◌, inl, inr}
use mathlib.Core.List.{List}
use native.Mathlib.Omega.{arith}
use lib.Dec.{T, lit≤, eqb, leb, ltb}
use lib.ListN.{length, drop, get_or}
use Rattle.definition.specs.Choice.{pick, unless, first, within, every}
use Rattle.definition.specs.Instructions.{put}
use Rattle.definition.specs.Sheet.{Record, version_of, tag_rank, Entry, entry_of, record_at, after_record, header_length, start_of, flags_of, options_of}
use Rattle.definition.specs.State.{State, bound_of, module_words}
use Rattle.definition.specs.Tests.{Seen, Judged, refused, fit, judge, no_record, records, header_test, place_test, entry_test, reading_test, sheet_least, sheet_most, out_of_order, room, form_known, names_of, values_fit, read_already, repeated}
use Rattle.definition.specs.Unfit.{fitness_test, entry_fits, entry_available}
use Rattle.definition.specs.Utf8.{name_fits}
use Rattle.definition.specs.Rules.{needs_wrapper}
use Rattle.definition.specs.Operations.{Progress, begin, record_test, declare_record, bound_most, bound_test, judged, Verdict, verdict_of, check, declare, Wrapping, Wraps, no_global, wrapping_of, wrapped}
use Rattle.definition.specs.Answered.{Refusal, Whole, Unchanged, Demand1, CheckAnswers, WrappedAnswers}

-- ---- a chain of tests answers at most the largest of its numbers, which is 15

most : (c : Bool) (n later : ℕ) → T (leb n 15) → later ≤ 15 → unless c n later ≤ 15
most true n later h k = k
most false n later h k = lit≤ h

-- 0 is no refusal
no_refusal : 0 ≤ 15
no_refusal = lit≤ tt

first_most : (n later : ℕ) → n ≤ 15 → later ≤ 15 → first n later ≤ 15
first_most zero later h k = k
first_most (suc n) later h k = h

pub header_most : (s : List ℕ) → header_test s ≤ 15
unfolding header_test
header_most s =
    most (within sheet_least sheet_most (length s)) _ _ tt
    (most (eqb (version_of s) 1) _ _ tt
    (most (ltb (flags_of s) 4) _ _ tt no_refusal))

place_most : (n : Seen) (t : ℕ) → place_test n t ≤ 15
unfolding place_test
place_most n t =
    most (ltb 0 (tag_rank t)) _ _ tt
    (most (not (out_of_order n (tag_rank t))) _ _ tt
    (most (room n (tag_rank t)) _ _ tt no_refusal))

entry_most : (n : Seen) (r : Record) (e : Entry) (end : ℕ) → entry_test n r e end ≤ 15
unfolding entry_test
entry_most n r e end =
    most (form_known r) _ _ tt
    (most (eqb end (length r.body)) _ _ tt
    (most (every name_fits (names_of e)) _ _ tt
    (most (values_fit e) _ _ tt
    (most (read_already n e) _ _ tt
    (most (not (repeated n e)) _ _ tt no_refusal)))))

fitness_most : (n : Seen) (s : State) (e : Entry) → fitness_test n s e ≤ 15
unfolding fitness_test
fitness_most n s e = most (entry_fits n s e) _ _ tt (most (entry_available n e) _ _ tt no_refusal)

record_most : (p : Progress) (r : Record) → record_test p r ≤ 15
unfolding record_test reading_test
record_most p r =
    let x = entry_of r in
    first_most _ _ (first_most _ _ (place_most p.seen r.tag) (entry_most p.seen r x.value x.end)) (fitness_most p.seen p.state x.value)

-- ---- what is judged

-- if it is refused, then by a number of Check's
abbrev pub Known : {S : Type 0} → Judged S → Type 0
Known (refused n) = Refusal n
Known (fit p) = Unit

module _ {S : Type 0} where
  judge_known : (h : ℕ) (x : Judged S) → h ≤ 15 → Known x → Known (judge h x)
  judge_known zero x l k = k
  judge_known (suc h) x l k = (omega arith, l)

  -- 4 of what is left of the sheet
  pick_known : (end None : Bool) (s : S) (x : Judged S) → Known x → Known (pick end (fit s) (pick None (refused 4) x))
  pick_known true None s x k = tt
  pick_known false true s x k = (omega arith, omega arith)
  pick_known false false s x k = k

  records_known : (test : S → Record → ℕ) (step : S → Record → S) → ((s : S) (r : Record) → test s r ≤ 15) → (fuel : ℕ) (rest : List ℕ) (s : S) → Known (records test step fuel rest s)
  unfolding records
  records_known test step small zero rest s = tt
  records_known test step small (suc fuel) rest s =
      let r = record_at rest in
      pick_known (eqb (length rest) 0) (no_record rest) s _ (judge_known (test s r) _ (small s r) (records_known test step small fuel (after_record rest) (step s r)))

-- 15
bound_known : (j : Judged Progress) → Known j → Known (bound_test j)
bound_known (refused n) k = k
bound_known (fit p) k = go (leb (bound_of p.state) bound_most)
  where
    go : (c : Bool) → Known (pick c (fit p) (refused 15))
    go true = tt
    go false = (omega arith, omega arith)

pub judged_known : (s : List ℕ) → Known (judged s)
unfolding judged
judged_known s =
    let step = declare_record (options_of (flags_of s)) in
    let later = records record_test step (length s) (drop header_length s) (begin (start_of s)) in
    bound_known (judge (header_test s) later)
    (judge_known (header_test s) later (header_most s) (records_known record_test step record_most (length s) (drop header_length s) (begin (start_of s))))

-- ---- the operations

pub demand_1 : Demand1
unfolding declare put
demand_1 s b = outer (judged s) refl (judged_known s)
  where
    -- 16, or the module
    fitting : (p : Progress) → judged s ≡ fit p → (c : Bool) → leb (length (module_words p.state)) (length b) ≡ c → Whole s b (declare s b) ⊎ Unchanged b (declare s b)
    fitting p f true l = inl (record { progress = p; fits = f; answer = rw (f, l); buffer = rw (f, l) })
    fitting p f false l = inr (record { number = 16; known = inr refl; answer = rw (f, l); buffer = rw (f, l) })

    outer : (j : Judged Progress) → judged s ≡ j → Known j → Whole s b (declare s b) ⊎ Unchanged b (declare s b)
    outer (refused n) f k = inr (record { number = n; known = inl k; answer = rw f; buffer = rw f })
    outer (fit p) f k = fitting p f (leb (length (module_words p.state)) (length b)) refl

pub check_answers : CheckAnswers
unfolding check
check_answers s = go (judged s) (judged_known s)
  where
    go : (j : Judged Progress) → Known j → (verdict_of j ≡ Verdict.Fit) ⊎ ((n : ℕ) × Refusal n × (verdict_of j ≡ Verdict.Refused n))
    go (refused n) k = inr (n, k, refl)
    go (fit p) k = inl refl

pub wrapped_answers : WrappedAnswers
unfolding wrapped
wrapped_answers s k = go (judged s) (judged_known s)
  where
    -- 17, or yes or no
    picked : (c y : Bool) → ((z : Bool) × (pick c (Wraps y) (Wrapping.Refused 17) ≡ Wraps z)) ⊎ ((n : ℕ) × (Refusal n ⊎ (n ≡ 17)) × (pick c (Wraps y) (Wrapping.Refused 17) ≡ Wrapping.Refused n))
    picked true y = inl (y, refl)
    picked false y = inr (17, inr refl, refl)

    go : (j : Judged Progress) → Known j → ((y : Bool) × (wrapping_of k j ≡ Wraps y)) ⊎ ((n : ℕ) × (Refusal n ⊎ (n ≡ 17)) × (wrapping_of k j ≡ Wrapping.Refused n))
    go (refused n) h = inr (n, inl h, refl)
    go (fit p) h = picked (ltb k (length p.seen.globals)) (needs_wrapper p.seen.types (get_or p.seen.globals k no_global))
