-- What the loop and the last stage come to is what the definition says: the answer and the buffer of Declare, then demands 1 and
-- 3 of them, which are theorems about the definition. Check is a Declare whose buffer is too short; Wrapped reads what was read.
use Prim.Native.Nat.{ℕ, zero, suc, ◌≤◌, ◌<◌}
use mathlib.Core.Path.{◌≡◌, refl, sym, ap, ◌∙◌, subst}
use mathlib.Core.Logic.{◌⊎◌, inl, inr}
use mathlib.Core.Bool.{Bool, true}
use mathlib.Core.List.Memᴰ
use mathlib.Core.List.{List, [], ◌∷◌, map, Memᴰ}
use native.Mathlib.Omega.{arith}
use native.Mathlib.Nat.{not-suc-le-zero}
use borrow.Author.Tests.{le-leb, lt-leb, lt-ltb, le-ltb, eq-eqb, ne_eqb}
use lib.ListN.{length, get_or, take, replicate, length-map, length-take, length-replicate}
use Rattle.definition.specs.Sheet.{TypeEntry, Global, global}
use Rattle.definition.specs.State.{State, bound_of, module_words}
use Rattle.definition.specs.Tests.{Seen, Judged, refused, fit, values_fit}
use Rattle.definition.specs.Rules.{needs_wrapper}
use Rattle.definition.specs.Operations.{Progress, bound_most, bound_test, judged, Declared, declared_of, declare, Verdict, verdict_of, check, wrapping_of, wrapped, no_global}
use Rattle.definition.specs.Operations.{Wrapping as MeantWrapping}
use Rattle.definition.specs.Operations.{Answer as Meant}
use Rattle.definition.specs.WellDeclared.{IsBytes}
use Rattle.definition.proofs.Answers.{Known, judged_known, demand_1, check_answers, wrapped_answers}
use Rattle.definition.proofs.Demand.{demand_3_of_declare}
use Rattle.definition.proofs.Words.{fit_words}
use Rattle.kinds.specs.Numbers.{space_number}
use Rattle.sheet.specs.declared.holding.Holding.{Holding}
use Rattle.records.specs.Places.{places_of, Ample, types_from, global_from}
use Rattle.entries.specs.declared.globals.GlobalVariable.{GlobalVariable}
use Rattle.entries.specs.Globals.{GlobalTakenFrom}
use Rattle.writer.specs.declared.Writer.{Writer}
use Rattle.std.specs.Prelude.{Result, Ok, Err}
use Rattle.refusals.specs.declared.Refusal.{Refusal}
use Rattle.refusals.specs.declared.Refusal.TheVariants.{Bound, NoGlobal, BufferLength}
use Rattle.refusals.specs.Numbers.{number_of}
use Rattle.refusals.proofs.Tests.{sixteen}
use Rattle.sheet_writer.specs.Whole.{before_bound, Capacity, SheetWritten}
use Rattle.module_layout.specs.declared.Module.{Module}
use Rattle.module_layout.specs.Finished.{answer_of, declared_as, Worded, CountFits}
use Rattle.declarations.specs.Promise.{DeclarePromise, CheckPromise, WrappedPromise, verdict_as, wrapping_as}
use Rattle.declarations.specs.Stages.{Lent, Roomed, Ended, PlacesStand, Standing, WrappedAs, verdict_from}

-- ---- the bytes of a slice are bytes

pub all_bytes : (s : List ℕ) → ((i : ℕ) → get_or s i 0 < 256) → IsBytes s
all_bytes [] f b m = absurd (Memᴰ.not-nil m)
all_bytes (x ∷ s) f b m = go (Memᴰ.cases_cons m) (λ n. all_bytes s (λ i. f (suc i)) b n)
  where
    go : (b ≡ x) ⊎ Memᴰ b s → (Memᴰ b s → b < 256) → b < 256
    go (inl e) r = omega (arith, f 0)
    go (inr n) r = r n

-- ---- Declare

counted_small : (a : Result Module Refusal) (m bound : ℕ) → CountFits a → answer_of a ≡ Meant.Written m bound → m < 4294967296
counted_small (Ok x) m bound c e = let q : x.words ≡ m = cc in omega arith
counted_small (Err r) m bound c e = let z : ◌≡◌ {A = ℕ} 0 1 = cc in absurd (omega arith)

module _ (s : List ℕ) where
  is_judged : judged s ≡ bound_test (before_bound s)
  unfolding judged
  is_judged = refl

  -- the words of what is held have 32 bits
  worded : IsBytes s → (p : Progress) → fit p ≡ before_bound s → Worded p.state
  worded bytes p e l = fit_words s bytes p (is_judged ∙ ap bound_test (sym e) ∙ rw (le-leb (bound_of p.state) bound_most l))

  module _ (b : List ℕ) (a : Result Module Refusal) (after : List ℕ) where
    as_declared : (j : Judged Progress) → j ≡ before_bound s → declared_as a after ≡ declared_of b (bound_test j) → declared_as a after ≡ declare s b
    unfolding declare
    as_declared j f e = e ∙ sym (ap (declared_of b) (is_judged ∙ ap bound_test (sym f)))

    kept : IsBytes s → ((n bound : ℕ) → answer_of a ≡ Meant.Written n bound → n < 4294967296) → declared_as a after ≡ declare s b → DeclarePromise s b a after
    kept bytes small e = record {
      answered = rw e (demand_1 s b);
      same = e;
      accepted = λ n bound w. demand_3_of_declare s b bytes n bound (sym (ap (λ (d : Declared). d.answer) e) ∙ w);
      counted = small;
    }

    refused_small : (n m bound : ℕ) → answer_of a ≡ Meant.Refused n → answer_of a ≡ Meant.Written m bound → m < 4294967296
    refused_small n m bound e f = let z : ◌≡◌ {A = ℕ} 0 1 = cc in absurd (omega arith)

    pub declared : (h : Holding) (w : Writer) (o : Result (Unit {0}) Refusal) (v : Writer) → IsBytes s → SheetWritten s h w o v → Ended v o b a after → DeclarePromise s b a after
    declared h w (Err r) v bytes c e = kept bytes (λ m bound w. refused_small (number_of r) m bound (ap (λ (d : Declared). d.answer) e) w) (as_declared (refused (number_of r)) c e)
    declared h w (Ok u) v bytes c e = kept bytes (λ m bound. counted_small a m bound e.counted) (as_declared (fit c.progress) c.same (e.says c.progress v.tables.now c.held (worded bytes c.progress c.same)))

-- ---- the scratch of the operations themselves: zeros, as many as a sheet can fill

zeros : (n j : ℕ) → ◌≡◌ {A = ℕ} (get_or (replicate n 0) j 0) 0
zeros zero j = refl
zeros (suc n) zero = refl
zeros (suc n) (suc j) = zeros n j

pub lent : (s : List ℕ) (w : Writer) → Lent s w → Capacity s w (replicate 256 0)
lent s w l = record { for_bytes = l.for_bytes; for_records = l.for_records; tables = l.tables; sections = l.sections; memo = zeros 256; memo-length = simp length-replicate (omega arith) }

pub ample : Ample (places_of (replicate 64 0) (replicate 512 0) (replicate 256 0) (replicate 64 0))
ample = record { remaps = simp length-replicate (omega arith); types = simp length-replicate (omega arith); constants = simp length-replicate (omega arith); globals = simp length-replicate (omega arith) }

-- the sections have room for what is in use
pub roomed : (s : List ℕ) (h : Holding) (w : Writer) (o : Result (Unit {0}) Refusal) (v : Writer) → SheetWritten s h w o v → w.used.bytes ≤ 65536 → Roomed v o
roomed s h w (Err r) v c few = tt
roomed s h w (Ok u) v c few = record { room = c.room.words; few = omega (arith, c.size) }

-- ---- Check

five_words : (s : State) → 5 ≤ length (module_words s)
unfolding module_words
five_words s = omega arith

pub checked : (s b : List ℕ) (a : Result Module Refusal) (after : List ℕ) → length b < 5 → declared_as a after ≡ declare s b → CheckPromise s (verdict_from a)
unfolding declare check
checked s b a after l e = let q = go (judged s) (judged_known s) a (ap (λ (d : Declared). d.answer) e) in record { answered = rw q (check_answers s); same = q }
  where
    short : (x : Result Module Refusal) → answer_of x ≡ Meant.Refused 16 → verdict_as (verdict_from x) ≡ Verdict.Fit
    short (Ok m) f = let z : ◌≡◌ {A = ℕ} 0 1 = cc in absurd (omega arith)
    short (Err r) f = let q : number_of r ≡ 16 = cc in rw (eq-eqb (number_of r) 16 q)

    go : (j : Judged Progress) → Known j → (x : Result Module Refusal) → answer_of x ≡ (declared_of b j).answer → verdict_as (verdict_from x) ≡ verdict_of j
    go (refused n) k (Ok m) f = let z : ◌≡◌ {A = ℕ} 0 1 = cc in absurd (omega arith)
    go (refused n) k (Err r) f = let q : number_of r ≡ n = cc in rw (ne_eqb (number_of r) 16 (λ g. omega arith)) (ap Verdict.Refused q)
    go (fit p) k x f = short x (rw (lt-leb (length (module_words p.state)) (length b) (omega (arith, five_words p.state))) at f)

-- where the answer is known
pub verdict_other : (r : Refusal) → (r ≡ BufferLength → ⊥) → Err r ≡ verdict_from (Err r)
verdict_other r h = rw (ne_eqb (number_of r) 16 (λ e. h (sixteen r e)))

-- ---- Wrapped

-- an element of those at the places
at_place : (s gs : List ℕ) (n i : ℕ) (d : Global) → i < n → n ≤ length gs → get_or (map (global_from s) (take n gs)) i d ≡ global_from s (get_or gs i 0)
at_place s gs zero i d h l = absurd (not-suc-le-zero h)
at_place s [] (suc n) i d h l = absurd (not-suc-le-zero l)
at_place s (g ∷ gs) (suc n) zero d h l = refl
at_place s (g ∷ gs) (suc n) (suc i) d h l = at_place s gs n i d (omega arith) (omega arith)

pub standing : (h : Holding) (w : Writer) (o : Result (Unit {0}) Refusal) (v : Writer) → SheetWritten h.sheet.now h w o v → Standing h o
standing h w (Err r) v c = tt
standing h w (Ok u) v c =
    let s = h.sheet.now in
    let g : h.counts.globals ≤ length h.globals.now = omega (arith, c.ample.globals, c.few.globals) in
    record {
      in_types = omega (arith, c.ample.types, c.few.types);
      in_globals = g;
      fits = λ i l. subst (λ (x : Global). values_fit (global x) ≡ true) (at_place s h.globals.now h.counts.globals i no_global l g) (c.globals i);
    }

pub wrapped_as : (h : Holding) (w : Writer) (o : Result (Unit {0}) Refusal) (v : Writer) (index : ℕ) (r : Result Bool Refusal) → SheetWritten h.sheet.now h w o v → WrappedAs h v o index r → WrappedPromise h.sheet.now index r
unfolding wrapped
wrapped_as h w o v index r c a = let q = same o c a in record { answered = rw q (wrapped_answers s index); same = q }
  where
    s : List ℕ
    s = h.sheet.now

    same : (o : Result (Unit {0}) Refusal) → SheetWritten s h w o v → WrappedAs h v o index r → wrapping_as r ≡ wrapped s index
    same (Err q) c a = a ∙ ap (λ (j : Judged Progress). wrapping_of index (bound_test j)) c ∙ sym (ap (wrapping_of index) (is_judged s))
    same (Ok u) c a =
        a c.progress (ap (λ (n : Seen). n.types) c.seen) (ap (λ (n : Seen). n.globals) c.seen) c.held.last
        ∙ ap (λ (j : Judged Progress). wrapping_of index (bound_test j)) c.same ∙ sym (ap (wrapping_of index) (is_judged s))

-- the ways out, where the outcome is known
module _ (h : Holding) (v : Writer) (o : Result (Unit {0}) Refusal) (index : ℕ) where
  pub wraps_refused : (r : Refusal) → o ≡ Err r → WrappedAs h v o index (Err r)
  wraps_refused r e = rw e refl

  module _ (e : o ≡ Ok tt) where
    pub stood : Standing h o → PlacesStand h.sheet.now h.types.now h.globals.now h.counts.types h.counts.globals
    stood p = subst (Standing h) e p

    pub wraps_15 : 4194303 ≤ v.used.idgen.last → WrappedAs h v o index (Err Bound)
    wraps_15 g = rw e (λ p et eg el. rw (lt-leb (bound_of p.state) bound_most (omega arith)))

    module _ (low : v.used.idgen.last < 4194303) where
      pub wraps_17 : h.counts.globals ≤ index → WrappedAs h v o index (Err NoGlobal)
      wraps_17 g = rw e (λ p et eg el.
          let l : length p.seen.globals ≤ index = rw eg (simp (length-map, length-take) (omega arith)) in
          rw (le-leb (bound_of p.state) bound_most (omega arith), le-ltb index (length p.seen.globals) l))

      pub wraps_answer : index < h.counts.globals → h.counts.globals ≤ length h.globals.now → (y : Bool) → y ≡ needs_wrapper (types_from h.sheet.now h.types.now h.counts.types) (global_from h.sheet.now (get_or h.globals.now index 0)) → WrappedAs h v o index (Ok y)
      wraps_answer m g y q = rw e (λ p et eg el.
          let s = h.sheet.now in
          let gs = h.globals.now in
          let l : index < length p.seen.globals = rw eg (simp (length-map, length-take) (omega arith)) in
          let z : y ≡ needs_wrapper p.seen.types (get_or p.seen.globals index no_global) =
          q ∙ (λ i. needs_wrapper (sym et i) (global_from s (get_or gs index 0))) ∙ ap (needs_wrapper p.seen.types) (sym (ap (λ (xs : List Global). get_or xs index no_global) eg ∙ at_place s gs h.counts.globals index no_global m g)) in
          rw (le-leb (bound_of p.state) bound_most (omega arith), lt-ltb index (length p.seen.globals) l) (ap MeantWrapping.Wraps z))

-- the global that was taken from its record is the one that was read
pub taken_wraps : (s gs : List ℕ) (ts : List TypeEntry) (index i : ℕ) (g : GlobalVariable) (y : Bool) → GlobalTakenFrom s (get_or gs index 0) g → values_fit (global (global_from s (get_or gs index 0))) ≡ true → g.ty ≡ i
    → ((x : Global) → x.type ≡ i → x.space ≡ space_number g.space → y ≡ needs_wrapper ts x) → y ≡ needs_wrapper ts (global_from s (get_or gs index 0))
taken_wraps s gs ts index i g y t v ei f =
    let e = t v in
    f (global_from s (get_or gs index 0)) (sym (ap (λ (x : Global). x.type) e) ∙ ei) (sym (ap (λ (x : Global). x.space) e))
