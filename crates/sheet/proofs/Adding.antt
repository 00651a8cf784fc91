-- What is held after a record is what was held, with the record added: for each rank, the list of its kind is longer by
-- the entry at the record's place. Then the counts: they are those of what was read, and stay within their limits. The functions that
-- were read are any list of the length that is counted, since no test looks at one.
use Rattle.std.specs.Prelude.{Option, Some, None}
use Prim.Native.Nat.{ℕ, zero, suc, ◌+◌, ◌≤◌, ◌<◌}
use mathlib.Core.Path.{◌≡◌, refl, ap, sym, ◌∙◌}
use mathlib.Core.Bool.{true, not}
use mathlib.Core.List.{List, [], ◌∷◌, ◌++◌, map}
use native.Mathlib.Omega.{arith}
use native.Mathlib.Numerals.{add-one}
use borrow.Author.Tests.{ltb-true}
use lib.Dec.{eqb, ltb}
use lib.ListN.{length, take, set, length-map, length-append}
use lib.Seq.{length-take-le, take-suc-set, take-set-le}
use Rattle.definition.specs.Choice.{within}
use Rattle.definition.specs.Sheet.{Record, Function, tag_rank, entry_of}
use Rattle.definition.specs.Tests.{Seen, add, add_record, place_test, out_of_order, room, reading_test, present}
use Rattle.records.specs.Counted.{Counted}
use Rattle.records.specs.Places.{Places, seen_of, Ample, WithinLimits, record_from, remap_from, type_from, constant_from, global_from, available_from}
use Rattle.records.specs.declared.Counts.{Counts}
use Rattle.definition.proofs.Truth.{pick_for, unless_zero, first_passed}
use Rattle.sheet.specs.Hash.{HashFor, Hashed}
use Rattle.sheet.specs.Holding.{type_noted, noted_at, add_counts, PassedAt, RecordHeld}
use Rattle.sheet.specs.Reading.{Looked, Stored}
use Rattle.sheet.proofs.Hashes.{hashed_more}

-- ---- the counts are those of what was read

there : (s : List ℕ) (at : Option ℕ) → present (available_from s at) ≡ present at
there s None = refl
there s (Some at) = refl

count : {A : Type 0} (f : ℕ → A) (l : List ℕ) (n : ℕ) → n ≤ length l → length (map f (take n l)) ≡ n
count f l n h = length-map (take n l) f ∙ length-take-le n l h

pub counted : (s : List ℕ) (p : Places) (k : Counts) (fs : List Function) → Ample p → WithinLimits k → length fs ≡ k.functions → Counted (seen_of s p k fs) k
counted s p k fs a f l = record {
  rank = refl;
  available = there s k.available;
  remaps = count (remap_from s) p.remaps k.remaps (omega arith);
  types = count (type_from s) p.types k.types (omega arith);
  functions = l;
  constants = count (constant_from s) p.constants k.constants (omega arith);
  globals = count (global_from s) p.globals k.globals (omega arith);
}

pub looked : (s : List ℕ) (p : Places) (k : Counts) (fs : List Function) → Ample p → WithinLimits k → length fs ≡ k.functions → Looked s p.remaps p.types k (seen_of s p k fs)
looked s p k fs a f l = record { counted = counted s p k fs a f l; remaps = refl; types = refl }

pub stored : (s : List ℕ) (p : Places) (k : Counts) → Ample p → WithinLimits k → Hashed s p.types k.types → Stored s p.remaps p.types k
stored s p k a f h = record { remaps = omega arith; types = omega arith; hashed = h }

-- ---- what a passed test of the place tells

pub record Placed (n : Seen) (r : ℕ) : Type 0 where
  pub ranked : 0 < r
  pub room : room n r ≡ true

pub placed : (n : Seen) (t : ℕ) → place_test n t ≡ 0 → Placed n (tag_rank t)
unfolding place_test
placed n t h =
    let a = unless_zero (ltb 0 (tag_rank t)) 4 _ h in
    let b = unless_zero (not (out_of_order n (tag_rank t))) 5 _ a.1 in
    record { ranked = ltb-true 0 (tag_rank t) a.0; room = (unless_zero (room n (tag_rank t)) 6 0 b.1).0 }

pub placed_of : (n : Seen) (r : Record) → reading_test n r ≡ 0 → Placed n (tag_rank r.tag)
unfolding reading_test
placed_of n r h = placed n r.tag (first_passed (place_test n r.tag) _ h).0

-- a rank is at most 6
pub rank_most : (t : ℕ) → tag_rank t ≤ 6
unfolding tag_rank
rank_most t =
    let P : ℕ → Type 0 = λ r. r ≤ 6 in
    pick_for P (eqb t 1) _ _ (omega arith) (pick_for P (eqb t 2) _ _ (omega arith) (pick_for P (within 16 28 t) _ _ (omega arith)
    (pick_for P (eqb t 48) _ _ (omega arith) (pick_for P (within 64 68 t) _ _ (omega arith) (pick_for P (eqb t 96) _ _ (omega arith) (omega arith))))))

-- what holds of each rank holds of the rank of a tag that has one
pub by_rank : (P : ℕ → Type 0) → P 1 → P 2 → P 3 → P 4 → P 5 → P 6 → (r : ℕ) → 0 < r → r ≤ 6 → P r
by_rank P a b c d e f zero l h = absurd (omega arith)
by_rank P a b c d e f (suc zero) l h = a
by_rank P a b c d e f (suc (suc zero)) l h = b
by_rank P a b c d e f (suc (suc (suc zero))) l h = c
by_rank P a b c d e f (suc (suc (suc (suc zero)))) l h = d
by_rank P a b c d e f (suc (suc (suc (suc (suc zero))))) l h = e
by_rank P a b c d e f (suc (suc (suc (suc (suc (suc zero)))))) l h = f
by_rank P a b c d e f (suc (suc (suc (suc (suc (suc (suc r))))))) l h = absurd (omega arith)

-- ---- one more

map_snoc : {A : Type 0} (f : ℕ → A) (os : List ℕ) (o : ℕ) → map f (os ++ (o ∷ [])) ≡ map f os ++ (f o ∷ [])
map_snoc f [] o = refl
map_snoc f (p ∷ os) o = ap (λ es. f p ∷ es) (map_snoc f os o)

one_more : {A : Type 0} (f : ℕ → A) (l : List ℕ) (n at : ℕ) → n < length l → map f (take (n + 1) (set l n at)) ≡ map f (take n l) ++ (f at ∷ [])
one_more f l n at h = rw (add-one, take-suc-set l n at h) (map_snoc f (take n l) at)

-- the hash lies behind the places
one_more_type : {A : Type 0} (f : ℕ → A) (l : List ℕ) (n at h : ℕ) → n < 256 → 512 ≤ length l → map f (take (n + 1) (type_noted l n at h)) ≡ map f (take n l) ++ (f at ∷ [])
one_more_type f l n at h few long = ap (map f) (take-set-le (n + 1) (set l n at) (256 + n) h (omega arith)) ∙ one_more f l n at (omega arith)

-- what one more record of rank r and hash h leaves
record Added (s : List ℕ) (p : Places) (k : Counts) (at h r : ℕ) : Type 0 where
  pub seen : (fs : List Function) → seen_of s (noted_at p k r at h) (add_counts k r at) (add_record (seen_of s p k fs) (record_from s at)).functions ≡ add_record (seen_of s p k fs) (record_from s at)
  pub functions : (fs : List Function) → length fs ≡ k.functions → length (add_record (seen_of s p k fs) (record_from s at)).functions ≡ (add_counts k r at).functions
  pub few : WithinLimits (add_counts k r at)
  pub hashed : Hashed s (noted_at p k r at h).types (add_counts k r at).types

module _ (s : List ℕ) (p : Places) (k : Counts) (at : ℕ) (d : PassedAt s p k at) (h : ℕ) (eh : HashFor (record_from s at) h) where
  abbrev n : Seen
  n = seen_of s p k d.functions

  abbrev f : WithinLimits k
  f = d.few

  abbrev a : Ample p
  a = d.ample

  abbrev c : Counted (seen_of s p k d.functions) k
  c = counted s p k d.functions d.ample d.few d.counted

  abbrev Adds : ℕ → Type 0
  Adds r = tag_rank (record_from s at).tag ≡ r → room (seen_of s p k d.functions) r ≡ true → Added s p k at h r

  adds_1 : Adds 1
  unfolding noted_at add_counts add_record add entry_of
  adds_1 e q =
      record {
        seen = λ fs. simp e;
        functions = λ fs l. simp e l;
        few = record { remaps = f.remaps; types = f.types; functions = f.functions; constants = f.constants; globals = f.globals };
        hashed = d.hashed;
      }

  adds_2 : Adds 2
  unfolding noted_at add_counts add_record add entry_of
  adds_2 e q =
      let l : k.remaps < 64 = rw c.remaps at (ltb-true (length n.remaps) 64 q) in
      record {
        seen = λ fs. simp (e, one_more (remap_from s) p.remaps k.remaps at (omega arith));
        functions = λ fs l. simp e l;
        few = record { remaps = omega arith; types = f.types; functions = f.functions; constants = f.constants; globals = f.globals };
        hashed = d.hashed;
      }

  adds_3 : Adds 3
  unfolding noted_at add_counts add_record add entry_of
  adds_3 e q =
      let l : k.types < 256 = rw c.types at (ltb-true (length n.types) 256 q) in
      record {
        seen = λ fs. simp (e, one_more_type (type_from s) p.types k.types at h l a.types);
        functions = λ fs l. simp e l;
        few = record { remaps = f.remaps; types = omega arith; functions = f.functions; constants = f.constants; globals = f.globals };
        hashed = hashed_more s p.types k.types at h l a.types (eh e) d.hashed;
      }

  adds_4 : Adds 4
  unfolding noted_at add_counts add_record add entry_of
  adds_4 e q =
      let l : k.functions < 64 = rw c.functions at (ltb-true (length n.functions) 64 q) in
      record {
        seen = λ fs. simp e;
        functions = λ fs o. simp (e, length-append) (omega arith);
        few = record { remaps = f.remaps; types = f.types; functions = omega arith; constants = f.constants; globals = f.globals };
        hashed = d.hashed;
      }

  adds_5 : Adds 5
  unfolding noted_at add_counts add_record add entry_of
  adds_5 e q =
      let l : k.constants < 256 = rw c.constants at (ltb-true (length n.constants) 256 q) in
      record {
        seen = λ fs. simp (e, one_more (constant_from s) p.constants k.constants at (omega arith));
        functions = λ fs l. simp e l;
        few = record { remaps = f.remaps; types = f.types; functions = f.functions; constants = omega arith; globals = f.globals };
        hashed = d.hashed;
      }

  adds_6 : Adds 6
  unfolding noted_at add_counts add_record add entry_of
  adds_6 e q =
      let l : k.globals < 64 = rw c.globals at (ltb-true (length n.globals) 64 q) in
      record {
        seen = λ fs. simp (e, one_more (global_from s) p.globals k.globals at (omega arith));
        functions = λ fs l. simp e l;
        few = record { remaps = f.remaps; types = f.types; functions = f.functions; constants = f.constants; globals = omega arith };
        hashed = d.hashed;
      }

  adds : (r : ℕ) → r ≡ tag_rank (record_from s at).tag → Added s p k at h r
  adds r e =
      let q = placed_of n (record_from s at) d.tested in
      by_rank Adds adds_1 adds_2 adds_3 adds_4 adds_5 adds_6 r
      (rw e q.ranked) (rw e (rank_most (record_from s at).tag)) (sym e) (rw e q.room)

-- what `hold` leaves, in slices of the same lengths
pub held : (s : List ℕ) (p p' : Places) (k k' : Counts) (at r h : ℕ) → PassedAt s p k at → r ≡ tag_rank (record_from s at).tag → HashFor (record_from s at) h
    → p' ≡ noted_at p k r at h → k' ≡ add_counts k r at
    → length p'.remaps ≡ length p.remaps → length p'.types ≡ length p.types
    → length p'.constants ≡ length p.constants → length p'.globals ≡ length p.globals
    → RecordHeld s p k at p' k'
held s p p' k k' at r h d er eh ep ek lr lt lc lg =
    let a = adds s p k at d h eh r er in
    let m = d.ample in
    record {
      ample = record { remaps = rw lr m.remaps; types = rw lt m.types; constants = rw lc m.constants; globals = rw lg m.globals };
      few = rw ek a.few;
      hashed = rw (ep, ek) a.hashed;
      counts = ek ∙ ap (λ (j : ℕ). add_counts k j at) er;
      functions = rw ek a.functions;
      seen = rw (ep, ek) a.seen;
    }
