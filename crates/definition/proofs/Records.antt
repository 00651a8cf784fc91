-- The records of a sheet, one after the other: what holds of the progress before a record that passes holds after it, so it holds
-- of the progress with which a sheet is fit.
use Prim.Native.Nat.{ℕ, suc, zero, ◌+◌, ◌-◌, ◌<◌, ◌≤◌}
use mathlib.Core.Path.{◌≡◌, refl, ap, ◌∙◌, subst}
use mathlib.Core.Logic.{◌⊎◌, inl, inr, ⊎_elim}
use mathlib.Core.List.Memᴰ
use mathlib.Core.List.{List, [], ◌∷◌, ◌++◌, Memᴰ}
use Rattle.std.specs.Prelude.{Some}
use mathlib.Core.Bool.{Bool, true, false}
use native.Mathlib.Omega.{arith}
use lib.Dec.{leb, leb→le}
use Rattle.std.specs.List.{slice_get}
use lib.ListN.{length, drop, length-take, length-drop, length-append}
use Rattle.definition.specs.Choice.{pick, within}
use Rattle.definition.specs.Bytes.{u16_at}
use Rattle.definition.specs.Sheet.{Options, Record, TypeEntry, Function, Expression, Global, Remap, Entry, record_at, after_record, header_length, start_of, flags_of, options_of, entry_of, tag_rank, available, remap, type, function, constant, global}
use Rattle.definition.specs.Tests.{sheet_least, sheet_most, header_test, add, add_record, reading_test, Judged, refused, fit, judge, records, inner_types}
use Rattle.definition.specs.Shapes.{Key, shape_of}
use Rattle.definition.specs.State.{void, State, bound_of}
use Rattle.definition.specs.Rules.{no_entry, declare_entry, declare_type, declare_function, declare_constant, declare_global}
use Rattle.definition.specs.Unfit.{fitness_test}
use Rattle.definition.specs.Operations.{Progress, begin, record_test, declare_record, bound_most, bound_test, judged}
use Rattle.definition.specs.WellDeclared.{VoidReturned, IsBytes}
use Rattle.definition.proofs.Truth.{both_true, first_passed, unless_passed}
use Rattle.definition.proofs.Lists.{last_in, snoc_cases, get_or_snoc, element_snoc}
use Rattle.definition.proofs.Sizes.{W, Under}
use Rattle.definition.proofs.Sound.{Sound, start_sound}
use Rattle.definition.proofs.Inners.{GoodInner, GoodTypes}
use Rattle.definition.proofs.Types.{Told, told_more, type_done}
use Rattle.definition.proofs.Values.{Referring, GoodRemaps, Read, read_more, Stays, Signed, signed_stays, read_aside, aside_stays, function_kept, constant_kept, global_kept}
use Rattle.definition.proofs.Bounds.{under-take, under_drop}
use Rattle.definition.proofs.Walk.{records_kept}
use Rattle.definition.proofs.Passing.{GoodEntry, GoodType, GoodFunction, GoodConstant, GoodVariable, reading_passed, entry_good}

remaps_snoc : (ms : List Remap) (m : Remap) → GoodRemaps ms → m.size ≤ W → GoodRemaps (ms ++ m ∷ [])
remaps_snoc [] m g h = (h, tt)
remaps_snoc (q ∷ ms) m g h = (g.0, remaps_snoc ms m g.1 h)

-- ---- what holds between two records

pub record Good (start : ℕ) (p : Progress) : Type 0 where
  pub sound : Sound start [] p.state
  pub read : Read (length p.seen.types) (length p.seen.constants) p.state
  pub types : GoodTypes p.seen.types
  pub referring : Referring p.seen.types
  pub remaps : GoodRemaps p.seen.remaps
  pub told : (h : ℕ) (t : TypeEntry) → slice_get p.seen.types h ≡ Some t → Told h (shape_of t.inner) p.state.types
  pub functions : (f : Function) → Memᴰ f p.seen.functions → Signed f p.state
  pub voids : (i : ℕ) → Memᴰ (void, i) p.state.constants.composites → VoidReturned p.seen.functions

pub begin_good : (start : ℕ) → Good start (begin start)
begin_good start = record {
  sound = start_sound start;
  read = record { types = record { all = λ h l. absurd (omega arith); only = λ h i m. absurd (Memᴰ.not-nil m) }; constants = refl };
  types = λ h. tt;
  referring = λ h b m. absurd (Memᴰ.not-nil m);
  remaps = tt;
  told = λ h t e. let z : ◌≡◌ {A = ℕ} 0 1 = cc in absurd (omega arith);
  functions = λ f m. absurd (Memᴰ.not-nil m);
  voids = λ i m. absurd (Memᴰ.not-nil m);
}

module _ (start : ℕ) (o : Options) (k : ℕ) where
  abbrev After : Progress → Entry → Progress
  After p e = record { seen = add p.seen k e; state = declare_entry o p.seen e p.state }

  type_good : (p : Progress) (t : TypeEntry) → GoodType p.seen t → Good start p → Good start (After p (type t))
  unfolding add
  type_good p t g h =
      let ts = p.seen.types in
      let s = p.state in
      let u = declare_type o.debug ts t s in
      let d = type_done start o.debug ts t s h.types g.inner g.name g.references h.read.types h.sound in
      let longer : length (ts ++ t ∷ []) ≡ suc (length ts) = omega (arith, length-append ts (t ∷ [])) in
      record {
        sound = d.sound;
        read = record { types = rw longer d.known; constants = ap length d.values ∙ h.read.constants };
        types = get_or_snoc (λ (x : TypeEntry). GoodInner x.inner) ts t no_entry h.types g.inner;
        referring = λ i b m. get_or_snoc (λ (x : TypeEntry). (b : ℕ) → Memᴰ b (inner_types x.inner) → b < length (ts ++ t ∷ [])) ts t no_entry
            (λ i b m. omega (arith, h.referring i b m, longer)) (λ b m. omega (arith, g.references b m, longer)) i b m;
        remaps = h.remaps;
        told = λ i x e. told ts u s h.told d.more d.told i x (element_snoc ts t x i e);
        functions = λ f m. signed_stays (record { more = d.more; shared = d.shared }) f (h.functions f m);
        voids = λ i m. h.voids i (d.routines void i tt m);
      }
    where
      told : (ts : List TypeEntry) (u s : State) → ((i : ℕ) (x : TypeEntry) → slice_get ts i ≡ Some x → Told i (shape_of x.inner) s.types) → ((k : Key) (i : ℕ) → Memᴰ (k, i) s.types → Memᴰ (k, i) u.types) → Told (length ts) (shape_of t.inner) u.types
          → (i : ℕ) (x : TypeEntry) → (slice_get ts i ≡ Some x) ⊎ ((i ≡ length ts) × (t ≡ x)) → Told i (shape_of x.inner) u.types
      told ts u s old more last i x (inl e) = told_more i (shape_of x.inner) s.types u.types more (old i x e)
      told ts u s old more last i x (inr e) = rw e.0 (subst (λ (y : TypeEntry). Told (length ts) (shape_of y.inner) u.types) e.1 last)

  constant_good : (p : Progress) (e : Expression) → GoodConstant p.seen e → Good start p → Good start (After p (constant e))
  unfolding add
  constant_good p e g h =
      let ts = p.seen.types in
      let cs = p.seen.constants in
      let q = constant_kept start ts (length cs) e p.state h.types g.good g.types g.constants h.read h.sound in
      let longer : length (cs ++ e ∷ []) ≡ suc (length cs) = omega (arith, length-append cs (e ∷ [])) in
      record {
        sound = q.sound;
        read = rw longer q.read;
        types = h.types;
        referring = h.referring;
        remaps = h.remaps;
        told = λ i x f. told_more i (shape_of x.inner) p.state.types (declare_constant ts e p.state).types q.stays.more (h.told i x f);
        functions = λ f m. signed_stays q.stays f (h.functions f m);
        voids = λ i m. h.voids i (q.routines void i tt m);
      }

  global_good : (p : Progress) (g : Global) → GoodVariable p.seen g → Good start p → Good start (After p (global g))
  unfolding add
  global_good p g v h =
      let q = global_kept start o p.seen g p.state h.types h.referring h.remaps v.good v.type v.init h.read h.sound in
      record {
        sound = q.sound;
        read = read_more q.grew h.read;
        types = h.types;
        referring = h.referring;
        remaps = h.remaps;
        told = λ i x f. told_more i (shape_of x.inner) p.state.types (declare_global o p.seen g p.state).types q.grew.more (h.told i x f);
        functions = λ f m. signed_stays (record { more = q.grew.more; shared = q.grew.shared }) f (h.functions f m);
        voids = λ i m. h.voids i (q.grew.routines void i tt m);
      }

  function_good : (p : Progress) (f : Function) → GoodFunction p.seen f → Good start p → Good start (After p (function f))
  unfolding add
  function_good p f g h =
      let q = function_kept start p.seen.types f p.state g.few g.types h.read.types h.sound in
      let w = aside_stays q.aside in
      record {
        sound = q.sound;
        read = read_aside q.aside h.read;
        types = h.types;
        referring = h.referring;
        remaps = h.remaps;
        told = λ i x e. told_more i (shape_of x.inner) p.state.types (declare_function f p.state).types w.more (h.told i x e);
        functions = λ x m. functions w q.signed x (snoc_cases p.seen.functions m);
        voids = λ i m. ⊎_elim (λ n. let v = h.voids i n in (v.0, Memᴰ.append_left (f ∷ []) v.1, v.2)) (λ e. (f, last_in p.seen.functions f, e)) (q.voids i m);
      }
    where
      functions : Stays p.state (declare_function f p.state) → Signed f (declare_function f p.state) → (x : Function) → Memᴰ x p.seen.functions ⊎ (x ≡ f) → Signed x (declare_function f p.state)
      functions w n x (inl m) = signed_stays w x (h.functions x m)
      functions w n x (inr e) = rw e n

  pub entry_kept : (p : Progress) (e : Entry) → GoodEntry p.seen e → Good start p → Good start (After p e)
  unfolding add
  entry_kept p (available cs) g h = record { sound = h.sound; read = h.read; types = h.types; referring = h.referring; remaps = h.remaps; told = h.told; functions = h.functions; voids = h.voids }
  entry_kept p (remap m) g h = record { sound = h.sound; read = h.read; types = h.types; referring = h.referring; remaps = remaps_snoc p.seen.remaps m h.remaps g; told = h.told; functions = h.functions; voids = h.voids }
  entry_kept p (type t) g h = type_good p t g h
  entry_kept p (function f) g h = function_good p f g h
  entry_kept p (constant e) g h = constant_good p e g h
  entry_kept p (global g) v h = global_good p g v h

-- a record that passes
pub record_kept : (start : ℕ) (o : Options) (p : Progress) (r : Record) → record_test p r ≡ 0 → Under 255 r.body → length r.body ≤ 16384 → Good start p → Good start (declare_record o p r)
unfolding record_test declare_record add_record
record_kept start o p r t u few h =
    let a = first_passed (reading_test p.seen r) (fitness_test p.seen p.state (entry_of r).value) t in
    entry_kept start o (tag_rank r.tag) p (entry_of r).value (entry_good r u few p.seen (reading_passed p.seen r a.0)) h

-- ---- a sheet that is fit

-- what is left of a sheet: bytes, and no more than a sheet may have
record Left (rest : List ℕ) : Type 0 where
  bytes : Under 255 rest
  few : length rest ≤ 16384

left_behind : (rest : List ℕ) → Left rest → Left (after_record rest)
unfolding after_record
left_behind rest l = record { bytes = under_drop 255 (2 + u16_at rest 0) rest l.bytes; few = omega (arith, l.few, length-drop (2 + u16_at rest 0) rest) }

left_kept : (start : ℕ) (o : Options) (rest : List ℕ) (p : Progress) → Left rest → record_test p (record_at rest) ≡ 0 → Good start p → Good start (declare_record o p (record_at rest))
unfolding record_at
left_kept start o rest p l t h =
    record_kept start o p (record_at rest) t (under-take 255 (u16_at rest 0 - 1) (drop 3 rest) (under_drop 255 3 rest l.bytes)) (omega (arith, l.few, length-take (u16_at rest 0 - 1) (drop 3 rest), length-drop 3 rest)) h

under_bytes : (s : List ℕ) → IsBytes s → Under 255 s
under_bytes [] h = tt
under_bytes (x ∷ xs) h = (omega (arith, h x (Memᴰ.head refl)), under_bytes xs (λ b m. h b (Memᴰ.tail m)))

-- its header passed, and its records, which came to that progress with a bound that is not too high
pub record Ran (s : List ℕ) (p : Progress) : Type 0 where
  pub header : header_test s ≡ 0
  pub all : records record_test (declare_record (options_of (flags_of s))) (length s) (drop header_length s) (begin (start_of s)) ≡ fit p
  pub low : bound_of p.state ≤ bound_most

pub fit_ran : (s : List ℕ) (p : Progress) → judged s ≡ fit p → Ran s p
unfolding judged
fit_ran s p e = outer (header_test s) refl (records record_test (declare_record (options_of (flags_of s))) (length s) (drop header_length s) (begin (start_of s))) refl e
  where
    bound : (q : Progress) (b : Bool) → leb (bound_of q.state) bound_most ≡ b → pick b (fit q) (refused 15) ≡ fit p → ((bound_of q.state ≤ bound_most) → Ran s q) → Ran s p
    bound q true l f g =
        let x : q ≡ p = cc in
        subst (Ran s) x (g (leb→le (bound_of q.state) bound_most (rw l tt)))
    bound q false l f g = let z : ◌≡◌ {A = ℕ} 0 1 = cc in absurd (omega arith)

    outer : (n : ℕ) → header_test s ≡ n → (j : Judged Progress) → records record_test (declare_record (options_of (flags_of s))) (length s) (drop header_length s) (begin (start_of s)) ≡ j → bound_test (judge n j) ≡ fit p → Ran s p
    outer zero t (refused m) f g = let z : ◌≡◌ {A = ℕ} 0 1 = cc in absurd (omega arith)
    outer zero t (fit q) f g = bound q (leb (bound_of q.state) bound_most) refl g (λ l. record { header = t; all = f; low = l })
    outer (suc n) t j f g = let z : ◌≡◌ {A = ℕ} 0 1 = cc in absurd (omega arith)

pub record FitSheet (s : List ℕ) (p : Progress) : Type 0 where
  pub good : Good (start_of s) p
  pub low : bound_of p.state ≤ bound_most

pub fit_sheet : (s : List ℕ) → IsBytes s → (p : Progress) → judged s ≡ fit p → FitSheet s p
unfolding header_test
fit_sheet s bytes p e =
    let r = fit_ran s p e in
    let a = unless_passed (within sheet_least sheet_most (length s)) 0 _ r.header in
    let size : length s ≤ 16384 = leb→le (length s) sheet_most (both_true (leb sheet_least (length s)) (leb (length s) sheet_most) a.0).1 in
    record {
      good =
          records_kept record_test (declare_record (options_of (flags_of s))) (Good (start_of s)) Left left_behind (left_kept (start_of s) (options_of (flags_of s))) (length s) (drop header_length s) (begin (start_of s)) p
          (record { bytes = under_drop 255 header_length s (under_bytes s bytes); few = omega (arith, length-drop header_length s) }) (begin_good (start_of s)) r.all;
      low = r.low;
    }
