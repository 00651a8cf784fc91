-- Paper 3's theorems. A list joined again is the words: test 20 leaves an instruction at least the words that its layout has before the
-- operands, so the Reader's `split` loses none, and what is joined of its list has the same words (`split_back`). A module of a fit
-- sheet is listed: its instructions are `Formed`, and the operands that a layout takes are as many as test 20 asks for (`operands_met`).
use Prim.Native.Nat.{ℕ, suc, zero, ◌+◌, ◌*◌, ◌-◌, ◌/◌, ◌%◌, ◌≤◌, ◌<◌}
use mathlib.Core.Path.{◌≡◌, refl, sym, ◌∙◌, subst}
use mathlib.Core.Bool.{Bool, true, false}
use mathlib.Core.List.{List, [], ◌∷◌, ◌++◌, Memᴰ}
use mathlib.Core.Logic.{◌⊎◌, inl, inr}
use Rattle.std.specs.Prelude.{Option, Some, None}
use native.Mathlib.Omega.{arith}
use borrow.Author.Tests.{le-leb, eq-eqb, leb-true, eqb-true}
use lib.Dec.{leb}
use lib.ListN.{length, take, drop, length-append, length-drop, take-append-drop}
use lib.Seq.{take_at, drop_at, length-take-le}
use Rattle.definition.specs.Choice.{pick, unless, within, or_else}
use Rattle.definition.specs.Instructions.{Instruction, optional, body, words, all_words, put}
use Rattle.definition.specs.Reader.{Operand, id, number, string, ids, numbers, id_or_none, Layout, statement, type_layout, value_layout, unknown, layout_of, formed, is_string, split}
use Rattle.definition.specs.Sheet.{start_of}
use Rattle.definition.specs.State.{instructions, module_words}
use Rattle.definition.specs.Tests.{Judged, refused, fit, judge}
use Rattle.definition.specs.Operations.{declare}
use Rattle.definition.specs.Answered.{Whole, Unchanged}
use Rattle.definition.specs.WellDeclared.{declares_id}
use Rattle.definition.specs.Listing.{More, exactly, or_one, or_any, least_of, more_of, count_fits, words_before, is_written, others, list_one, list_split, list_body, instruction_test, ahead, list_from, is_front, front_test, list_of, list, list_all, instruction_of, join_from, join, Joins, ToldApart, StaysShort, TakesModules, HasList, TakesWritten, ListRefusal, WholeList, Unlisted, ListAnswers}
use Rattle.definition.proofs.Truth.{both, unless_zero}
use Rattle.definition.proofs.ByShape.{Formed}
use Rattle.definition.proofs.Few.{few_numbers}
use Rattle.definition.proofs.Capabilities.{small_listed}
use Rattle.definition.proofs.Records.{fit_sheet}
use Rattle.definition.proofs.Reading.{split_body}
use Rattle.definition.proofs.Demand.{all_readable}
use Rattle.definition.proofs.Answers.{demand_1}

-- ---- words that are taken already

pub list_past : (k : ℕ) (ws : List ℕ) → list_from k ws ≡ list_from 0 (drop k ws)
unfolding list_from
list_past zero ws = refl
list_past (suc k) [] = refl
list_past (suc k) (w ∷ ws) = list_past k ws

pub join_past : (k : ℕ) (l : List ℕ) → join_from k l ≡ join_from 0 (drop k l)
unfolding join_from
join_past zero l = refl
join_past (suc k) [] = refl
join_past (suc k) (x ∷ l) = join_past k l

-- ---- one instruction

-- words behind a first one, no fewer than the layout has before the operands: what the Reader makes of them, put together again
record Back (o : ℕ) (t d : Bool) (b : List ℕ) : Type 0 where
  one : Instruction
  is : split o t d b ≡ Some one
  opcode : one.opcode ≡ o
  back : words (instruction_of o t d (or_else 0 one.result) (others one)) ≡ (65536 * suc (length b) + o) ∷ b

split_back : (o : ℕ) (t d : Bool) (b : List ℕ) → words_before t d ≤ suc (length b) → Back o t d b
unfolding words
split_back o true true [] h = absurd (omega arith)
split_back o true true (x ∷ []) h = absurd (omega arith)
split_back o true true (x ∷ (y ∷ b)) h = record { one = _; is = refl; opcode = refl; back = refl }
split_back o true false [] h = absurd (omega arith)
split_back o true false (x ∷ b) h = record { one = _; is = refl; opcode = refl; back = refl }
split_back o false true [] h = absurd (omega arith)
split_back o false true (x ∷ b) h = record { one = _; is = refl; opcode = refl; back = refl }
split_back o false false b h = record { one = _; is = refl; opcode = refl; back = refl }

-- the list of one instruction is at most two words longer
length_split : (o : ℕ) (t d : Bool) (b : List ℕ) → length (list_split (split o t d b)) ≤ 3 + length b
length_split o true true [] = omega arith
length_split o true true (x ∷ []) = omega arith
length_split o true true (x ∷ (y ∷ b)) = omega arith
length_split o true false [] = omega arith
length_split o true false (x ∷ b) = omega arith
length_split o false true [] = omega arith
length_split o false true (x ∷ b) = omega arith
length_split o false false b = omega arith

pub length_listed : (o : ℕ) (b : List ℕ) → length (list_body o b) ≤ 3 + length b
length_listed o b = length_split o (layout_of o).typed (layout_of o).declares b

one_joined : (o : ℕ) (b m : List ℕ) → words_before (layout_of o).typed (layout_of o).declares ≤ suc (length b)
    → join_from 0 (list_body o b ++ m) ≡ (65536 * suc (length b) + o) ∷ (b ++ join_from 0 m)
unfolding join_from
one_joined o b m h =
    let s = split_back o (layout_of o).typed (layout_of o).declares b h in
    let xs = others s.one in
    rw (s.is, s.opcode, join_past (length xs) (xs ++ m), take_at xs m (length xs) refl, drop_at xs m (length xs) refl, s.back)

-- ---- the list joined

-- what is ahead of a list, and that no test refused it
record Step (here : ℕ) (xs : List ℕ) (later : Judged (List ℕ)) (l : List ℕ) : Type 0 where
  passed : here ≡ 0
  rest : List ℕ
  same : later ≡ fit rest
  whole : l ≡ xs ++ rest

step : (here : ℕ) (xs : List ℕ) (later : Judged (List ℕ)) (l : List ℕ) → judge here (ahead xs later) ≡ fit l → Step here xs later l
step zero xs (refused n) l e = let z : ◌≡◌ {A = ℕ} 0 1 = cc in absurd (omega arith)
step zero xs (fit m) l e = record { passed = refl; rest = m; same = refl; whole = cc }
step (suc n) xs later l e = let z : ◌≡◌ {A = ℕ} 0 1 = cc in absurd (omega arith)

least_met : (m : More) (least n : ℕ) → count_fits m least n ≡ true → least ≤ n
least_met exactly least n e = omega (arith, eqb-true n least e)
least_met or_one least n e = leb-true least n (both (leb least n) _ e).0
least_met or_any least n e = leb-true least n e

-- what test 20 says of an opcode and a count that pass it
pub record Written (o n : ℕ) : Type 0 where
  pub known : (layout_of o).known ≡ true
  pub least : words_before (layout_of o).typed (layout_of o).declares + least_of (layout_of o).operands ≤ n
  pub enough : words_before (layout_of o).typed (layout_of o).declares ≤ n

pub written_says : (o n : ℕ) → is_written o n ≡ true → Written o n
unfolding is_written
written_says o n e =
    let l = layout_of o in
    let least = words_before l.typed l.declares + least_of l.operands in
    let b = both l.known (count_fits (more_of l.operands) least n) e in
    let m = least_met (more_of l.operands) least n b.1 in
    record { known = b.0; least = m; enough = omega arith }

-- what the two tests say of an instruction that passes
pub record Passed (w left : ℕ) : Type 0 where
  pub some_words : 1 ≤ w / 65536
  pub inside : w / 65536 ≤ suc left
  pub written : is_written (w % 65536) (w / 65536) ≡ true

pub tests_say : (w left : ℕ) → instruction_test w left ≡ 0 → Passed w left
unfolding instruction_test
tests_say w left e =
    let a = unless_zero (within 1 (suc left) (w / 65536)) 18 _ e in
    let b = both (leb 1 (w / 65536)) (leb (w / 65536) (suc left)) a.0 in
    let c = unless_zero (is_written (w % 65536) (w / 65536)) 19 _ a.1 in
    record { some_words = leb-true 1 (w / 65536) b.0; inside = leb-true (w / 65536) (suc left) b.1; written = c.0 }

all_joined : (k : ℕ) (ws l : List ℕ) → list_from k ws ≡ fit l → join_from 0 l ≡ drop k ws
unfolding list_from join_from
all_joined zero [] l e = let q : [] ≡ l = cc in rw (← q)
all_joined zero (w ∷ ws) l e =
    let n = w / 65536 - 1 in
    let o = w % 65536 in
    let b = take n ws in
    let s = step (instruction_test w (length ws)) (list_body o b) (list_from n ws) l e in
    let t = tests_say w (length ws) s.passed in
    let q = written_says o (w / 65536) t.written in
    let size : length b ≡ n = length-take-le n ws (omega arith) in
    let first : 65536 * suc (length b) + o ≡ w = omega arith in
    rw (s.whole, one_joined o b s.rest (omega arith), first, all_joined n ws s.rest s.same, take-append-drop n ws)
all_joined (suc k) [] l e = let q : [] ≡ l = cc in rw (← q)
all_joined (suc k) (w ∷ ws) l e = all_joined k ws l e

front_length : (ws : List ℕ) → front_test ws ≡ 0 → 5 ≤ length ws
unfolding front_test
front_length ws e = leb-true 5 (length ws) (both (leb 5 (length ws)) _ (unless_zero (is_front ws) 17 0 e).0).0

pub joins : Joins
unfolding list_of join
joins ws l e =
    let s = step (front_test ws) (take 5 ws) (list_from 5 ws) l e in
    let five : length (take 5 ws) ≡ 5 = length-take-le 5 ws (front_length ws s.passed) in
    let front = take_at (take 5 ws) s.rest 5 five in
    let behind = drop_at (take 5 ws) s.rest 5 five in
    rw (s.whole, front, join_past 5 (take 5 ws ++ s.rest), behind, all_joined 5 ws s.rest s.same, take-append-drop 5 ws)

pub told_apart : ToldApart
told_apart v w l e f = sym (joins v l e) ∙ joins w l f

-- ---- how long a list is

-- an instruction has two words at least: so says each layout of the table
unfoldable two_words : Layout → Bool
two_words l = pick l.known (leb 2 (words_before l.typed l.declares + least_of l.operands)) true

two_of : (b : Bool) (x y : Layout) → two_words (pick b x y) ≡ pick b (two_words x) (two_words y)
two_of true x y = refl
two_of false x y = refl

one_of : (b : Bool) → pick b true true ≡ true
one_of true = refl
one_of false = refl

two_type : (os : List Operand) → two_words (type_layout os) ≡ true
unfolding two_words
two_type os = le-leb 2 (2 + least_of os) (omega arith)

two_value : (os : List Operand) → two_words (value_layout os) ≡ true
unfolding two_words
two_value os = le-leb 2 (3 + least_of os) (omega arith)

two_id : (os : List Operand) → two_words (statement (id ∷ os)) ≡ true
unfolding two_words
two_id os = le-leb 2 (1 + suc (least_of os)) (omega arith)

two_number : (os : List Operand) → two_words (statement (number ∷ os)) ≡ true
unfolding two_words
two_number os = le-leb 2 (1 + suc (least_of os)) (omega arith)

two_none : two_words unknown ≡ true
unfolding two_words
two_none = refl

two_known : (l : Layout) → l.known ≡ true → two_words l ≡ true → 2 ≤ words_before l.typed l.declares + least_of l.operands
unfolding two_words
two_known l k t =
    let n = words_before l.typed l.declares + least_of l.operands in
    leb-true 2 n (subst (λ (b : Bool). pick b (leb 2 n) true ≡ true) k t)

two_words_lem : (o : ℕ) → two_words (layout_of o) ≡ true
two_words_lem o = simp (two_of, one_of, two_type, two_value, two_id, two_number, two_none)

all_short : (k : ℕ) (ws l : List ℕ) → list_from k ws ≡ fit l → length l ≤ 2 * length (drop k ws)
unfolding list_from
all_short zero [] l e = let q : [] ≡ l = cc in rw (← q) (omega arith)
all_short zero (w ∷ ws) l e =
    let n = w / 65536 - 1 in
    let o = w % 65536 in
    let s = step (instruction_test w (length ws)) (list_body o (take n ws)) (list_from n ws) l e in
    let t = tests_say w (length ws) s.passed in
    let q = written_says o (w / 65536) t.written in
    let two : 2 ≤ w / 65536 = omega (arith, two_known (layout_of o) q.known (two_words_lem o), q.least) in
    let size : length (take n ws) ≡ n = length-take-le n ws (omega arith) in
    rw (s.whole, length-append (list_body o (take n ws)) s.rest) (omega (arith, length_listed o (take n ws), all_short n ws s.rest s.same, length-drop n ws))
all_short (suc k) [] l e = let q : [] ≡ l = cc in rw (← q) (omega arith)
all_short (suc k) (w ∷ ws) l e = all_short k ws l e

pub stays_short : StaysShort
unfolding list_of
stays_short ws l e =
    let s = step (front_test ws) (take 5 ws) (list_from 5 ws) l e in
    let five = front_length ws s.passed in
    rw (s.whole, length-append (take 5 ws) s.rest) (omega (arith, length-take-le 5 ws five, all_short 5 ws s.rest s.same, length-drop 5 ws))

-- ---- every module of a fit sheet

-- how many words a test asks for, as facts
abbrev Meets : More → ℕ → ℕ → Type 0
Meets exactly least n = n ≡ least
Meets or_one least n = (least ≤ n) × (n ≤ least + 1)
Meets or_any least n = least ≤ n

count_met : (m : More) (least n : ℕ) → Meets m least n → count_fits m least n ≡ true
count_met exactly least n h = eq-eqb n least h
count_met or_one least n h = rw (le-leb least n h.0, le-leb n (least + 1) h.1)
count_met or_any least n h = le-leb least n h

-- a word more of each
one_more : (m : More) (k a b : ℕ) → Meets m (suc k + a) (suc k + b) → Meets m (k + suc a) (k + suc b)
one_more m k a b h =
    let e : k + suc a ≡ suc k + a = omega arith in
    let f : k + suc b ≡ suc k + b = omega arith in
    rw (e, f) h

a_string : (xs : List ℕ) → is_string xs ≡ true → 1 ≤ length xs
unfolding is_string
a_string [] e = let z : ◌≡◌ {A = ℕ} 0 1 = cc in absurd (omega arith)
a_string (x ∷ xs) e = omega arith

-- words that the Reader takes for operands, of numbers up to the end one at most, are as many as the test asks for
operands_met : (os : List Operand) (xs : List ℕ) (k : ℕ) → formed os xs ≡ true → few_numbers os xs ≡ true → Meets (more_of os) (k + least_of os) (k + length xs)
operands_met [] [] k e f = refl
operands_met [] (x ∷ xs) k e f = let z : ◌≡◌ {A = ℕ} 0 1 = cc in absurd (omega arith)
operands_met (id ∷ os) [] k e f = let z : ◌≡◌ {A = ℕ} 0 1 = cc in absurd (omega arith)
operands_met (id ∷ os) (x ∷ xs) k e f = one_more (more_of os) k (least_of os) (length xs) (operands_met os xs (suc k) e f)
operands_met (number ∷ os) [] k e f = let z : ◌≡◌ {A = ℕ} 0 1 = cc in absurd (omega arith)
operands_met (number ∷ os) (x ∷ xs) k e f = one_more (more_of os) k (least_of os) (length xs) (operands_met os xs (suc k) e f)
operands_met (string ∷ os) xs k e f = omega (arith, a_string xs e)
operands_met (ids ∷ os) xs k e f = omega arith
operands_met (numbers ∷ os) [] k e f = (omega arith, omega arith)
operands_met (numbers ∷ os) (x ∷ []) k e f = (omega arith, omega arith)
operands_met (numbers ∷ os) (x ∷ (y ∷ xs)) k e f = let z : ◌≡◌ {A = ℕ} 0 1 = cc in absurd (omega arith)
operands_met (id_or_none ∷ os) [] k e f = (omega arith, omega arith)
operands_met (id_or_none ∷ os) (x ∷ []) k e f = (omega arith, omega arith)
operands_met (id_or_none ∷ os) (x ∷ (y ∷ xs)) k e f = let z : ◌≡◌ {A = ℕ} 0 1 = cc in absurd (omega arith)

before_body : (t r : Option ℕ) (xs : List ℕ) → words_before (declares_id t) (declares_id r) + length xs ≡ suc (length (optional t ++ (optional r ++ xs)))
before_body None None xs = omega arith
before_body None (Some r) xs = omega arith
before_body (Some t) None xs = omega arith
before_body (Some t) (Some r) xs = omega arith

one_written : (i : Instruction) → Formed i → is_written i.opcode (suc (length (body i))) ≡ true
unfolding is_written
one_written i f =
    let os = (layout_of i.opcode).operands in
    let h = words_before (declares_id i.type) (declares_id i.result) in
    let m = operands_met os i.operands h f.operands f.few in
    rw (f.known, f.typed, f.declares, ← (before_body i.type i.result i.operands)) (count_met (more_of os) (h + least_of os) (h + length i.operands) m)

one_listed : (i : Instruction) → Formed i → list_body i.opcode (body i) ≡ list_one i
one_listed i f = rw (f.typed, f.declares, split_body i.opcode i.type i.result i.operands)

all_listed : (is : List Instruction) → ((i : Instruction) → Memᴰ i is → Formed i) → list_from 0 (all_words is) ≡ fit (list_all is)
unfolding list_from all_words words instruction_test
all_listed [] f = refl
all_listed (i ∷ is) f =
    let g = f i (Memᴰ.head refl) in
    let b = body i in
    let later = all_words is in
    let w = 65536 * suc (length b) + i.opcode in
    let small : i.opcode < 65536 = g.small in
    let n : w / 65536 ≡ suc (length b) = omega arith in
    let k : w / 65536 - 1 ≡ length b = omega arith in
    let o : w % 65536 ≡ i.opcode = omega arith in
    let low = le-leb 1 (suc (length b)) (omega arith) in
    let high = le-leb (suc (length b)) (suc (length (b ++ later))) (omega (arith, length-append b later)) in
    let rest = all_listed is (λ j m. f j (Memᴰ.tail m)) in
    rw (k, n, o, low, high, one_written i g, take_at b later (length b) refl, one_listed i g, list_past (length b) (b ++ later), drop_at b later (length b) refl, rest)

pub takes_modules : TakesModules
unfolding list_of front_test module_words list_from
takes_modules s bytes p e =
    let h = (fit_sheet s bytes p e).good.sound in
    let is = instructions p.state in
    let formed = all_readable (start_of s) p.state h (small_listed p.state.capabilities p.state.declarations h.caps) in
    let r = all_listed is (λ i m. (formed i m).formed) in
    rw (le-leb 5 (suc (suc (suc (suc (suc (length (all_words is))))))) (omega arith), r)

-- the module stands at the front of the buffer that Declare leaves
pub takes_written : TakesWritten
takes_written s b bytes n bound e = go (demand_1 s b)
  where
    go : Whole s b (declare s b) ⊎ Unchanged b (declare s b) → HasList (take n (declare s b).buffer)
    go (inl d) =
        let ws = module_words d.progress.state in
        let m : length ws ≡ n = cc in
        rw (d.buffer, take_at ws (drop (length ws) b) n m) (_, takes_modules s bytes d.progress d.fits)
    go (inr d) = let z : ◌≡◌ {A = ℕ} 0 1 = cc in absurd (omega arith)

-- ---- the answers

-- 0, or a number of the list's
abbrev Tested : ℕ → Type 0
Tested n = (n ≡ 0) ⊎ ListRefusal n

unless_tested : (c : Bool) (n later : ℕ) → ListRefusal n → Tested later → Tested (unless c n later)
unless_tested true n later r t = t
unless_tested false n later r t = inr r

-- if it is refused, then by such a number
abbrev Known : Judged (List ℕ) → Type 0
Known (refused n) = ListRefusal n
Known (fit l) = Unit

step_known : (here : ℕ) (xs : List ℕ) (later : Judged (List ℕ)) → Tested here → Known later → Known (judge here (ahead xs later))
step_known zero xs (refused n) t k = k
step_known zero xs (fit l) t k = tt
step_known (suc n) xs later (inl e) k = absurd (omega arith)
step_known (suc n) xs later (inr r) k = r

all_known : (k : ℕ) (ws : List ℕ) → Known (list_from k ws)
unfolding list_from instruction_test
all_known zero [] = tt
all_known zero (w ∷ ws) =
    let n = w / 65536 - 1 in
    step_known (instruction_test w (length ws)) (list_body (w % 65536) (take n ws)) (list_from n ws)
    (unless_tested (within 1 (suc (length ws)) (w / 65536)) 19 _ (inr (inl refl)) (unless_tested (is_written (w % 65536) (w / 65536)) 20 0 (inr (inr refl)) (inl refl)))
    (all_known n ws)
all_known (suc k) [] = tt
all_known (suc k) (w ∷ ws) = all_known k ws

list_known : (ws : List ℕ) → Known (list_of ws)
unfolding list_of front_test
list_known ws = step_known (front_test ws) (take 5 ws) (list_from 5 ws) (unless_tested (is_front ws) 18 0 (inl refl) (inl refl)) (all_known 5 ws)

pub list_answers : ListAnswers
unfolding list put
list_answers ws b = outer (list_of ws) refl (list_known ws)
  where
    -- 16, or the list
    fitting : (l : List ℕ) → list_of ws ≡ fit l → (c : Bool) → leb (length l) (length b) ≡ c → WholeList ws b (list ws b) ⊎ Unlisted b (list ws b)
    fitting l f true e = inl (record { whole = l; lists = f; room = leb-true (length l) (length b) e; answer = rw (f, e); buffer = rw (f, e) })
    fitting l f false e = inr (record { number = 16; known = inr refl; answer = rw (f, e); buffer = rw (f, e) })

    outer : (j : Judged (List ℕ)) → list_of ws ≡ j → Known j → WholeList ws b (list ws b) ⊎ Unlisted b (list ws b)
    outer (refused n) f k = inr (record { number = n; known = inl k; answer = rw f; buffer = rw f })
    outer (fit l) f k = fitting l f (leb (length l) (length b)) refl
