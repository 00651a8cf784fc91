-- A type that is passed over has another hash, tag or body; the hashes are those of the places, one of each.
use Prim.Native.Nat.{ℕ, ◌+◌, ◌≤◌, ◌<◌}
use mathlib.Core.List.{List, map}
use mathlib.Core.Bool.{false}
use mathlib.Core.Path.{◌≡◌, ap, sym, ◌∙◌}
use native.Mathlib.Omega.{arith}
use lib.ListN.{length, get_or, drop}
use Rattle.definition.specs.Tests.{type_read, same_record}
use Rattle.definition.specs.Sheet.{Record, record_at}
use Rattle.records.specs.Places.{types_in, type_from, record_from}
use Rattle.records.specs.declared.Earlier.{Earlier}
use Rattle.sheet_fields.specs.Fields.{record_of}
use Rattle.sheet.proofs.Earlier.{skip, skip_to, hit, none_left, types as search-types, other_tag, other_body, same}
use Rattle.sheet.proofs.Hashes.{other_hash}
use Rattle.sheet.specs.Hash.{hash_of, HashesOf, Unlike}
use Rattle.sheet.proofs.repeats.type_read.Goals as goal

-- a type of another body is another
other : (rest place e : List ℕ) (r : Record) → e ≡ (record_at rest).body → rest ≡ place → (e ≡ r.body → ⊥) → same_record (record_at place) r ≡ false
other rest place e r q k d = other_body _ _ (λ z. d (q ∙ ap (λ x. (record_at x).body) k ∙ z))

-- those from `from` to i, whose hashes are others, are passed over, and then type i
module _ (e : Earlier) (hs : List ℕ) (r : Record) (hash from i : ℕ) (asked : HashesOf e hs × (hash ≡ hash_of r)) (at : from ≤ i) where
  reached : i ≤ length hs → Unlike hs hash from i
      → type_read r (types_in e) ≡ type_read r (map (type_from e.sheet.now) (drop from e.places.now))
      → type_read r (types_in e) ≡ type_read r (map (type_from e.sheet.now) (drop i e.places.now))
  reached le u q = q ∙ skip_to (search-types e.sheet.now r) e.places.now from i at (omega (arith, asked.0.long)) (λ j lo hi. other_hash _ r (λ z. u j lo hi (asked.0.each j (omega (arith, hi, le)) ∙ z ∙ sym asked.1)))

  passed : (i < length hs) × Unlike hs hash from i
      → type_read r (types_in e) ≡ type_read r (map (type_from e.sheet.now) (drop from e.places.now))
      → same_record (record_from e.sheet.now (get_or e.places.now i 0)) r ≡ false
      → type_read r (types_in e) ≡ type_read r (map (type_from e.sheet.now) (drop (i + 1) e.places.now))
  passed f q d = reached (omega (arith, f.0)) f.1 q ∙ skip (search-types e.sheet.now r) e.places.now i (omega (arith, f.0, asked.0.long)) d

pub entries-preserved-then-tag_of-t : goal.entries-preserved-then-tag_of-t
entries-preserved-then-tag_of-t c =
    let a = c.args in
    let f = c.in-Some.ensures in (
      omega (arith, f.1.0),
      (
        c.entries.invariant.1.0,
        passed a.types a.hashes.now (record_of a.t a.b.now) a.hash c.entries.from c.in-Some.i c.requires f.0 f.1 c.entries.invariant.1.1
            (other_tag _ _ (λ q. c.if-tag_of-t.true (c.tag_of.ensures ∙ ap (λ r. (record_at r).tag) c.rest_at-rest.ensures ∙ q))),
      ),
    )

pub returns-in_default : goal.returns-in_default
returns-in_default c =
    let a = c.args in
    c.entries.invariant.1.0 ∙ sym (reached a.types a.hashes.now (record_of a.t a.b.now) a.hash c.entries.from (length a.hashes.now) c.requires c.entries.invariant.0 (omega arith) c.in_default.ensures c.entries.invariant.1.1
    ∙ none_left (search-types a.types.sheet.now (record_of a.t a.b.now)) a.types.places.now (length a.hashes.now) (omega (arith, c.requires.0.long)))

pub entries-preserved-then-not-same_body : goal.entries-preserved-then-not-same_body
entries-preserved-then-not-same_body c =
    let a = c.args in
    let f = c.in-Some.ensures in (
      omega (arith, f.1.0),
      (
        c.entries.invariant.1.0,
        passed a.types a.hashes.now (record_of a.t a.b.now) a.hash c.entries.from c.in-Some.i c.requires f.0 f.1 c.entries.invariant.1.1
            (other _ _ _ (record_of a.t a.b.now) c.body_of-e.ensures c.rest_at-rest.ensures (c.same_body.ensures.other c.if-not-same_body.true)),
      ),
    )

pub returns-after-loop-p : goal.returns-after-loop-p
returns-after-loop-p c =
    let a = c.args in
    let f = c.in-Some.ensures in
    sym (reached a.types a.hashes.now (record_of a.t a.b.now) a.hash c.entries.from c.in-Some.i c.requires f.0 (omega (arith, f.1.0)) f.1.1 c.entries.invariant.1.1
    ∙ hit (search-types a.types.sheet.now (record_of a.t a.b.now)) a.types.places.now c.in-Some.i (omega (arith, f.1.0, c.requires.0.long))
    (same _ (record_of a.t a.b.now) (sym (c.tag_of.ensures ∙ ap (λ r. (record_at r).tag) c.rest_at-rest.ensures) ∙ c.if-tag_of-t.false)
    (sym (c.body_of-e.ensures ∙ ap (λ r. (record_at r).body) c.rest_at-rest.ensures) ∙ c.same_body.ensures.same c.if-not-same_body.false)))
