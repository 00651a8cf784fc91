-- A record's entry, by its rank: it is read by its kind's fields. What tests 5 to 12 tell of it stands in `sheet` (Told).
use Prim.Native.Nat.{◌+◌, ◌≤◌}
use mathlib.Core.Path.{◌≡◌}
use native.Mathlib.Omega.{arith}
use lib.ListN.{length}
use Rattle.definition.specs.Bytes.{name_end}
use Rattle.definition.specs.Sheet.{Record, Fields, Entry, entry_of, tag_rank, map_fields, type_entry, type_fields, constant_fields, global_fields, available_fields, remap_fields, available, remap, type, constant, global}
use Rattle.definition.specs.Tests.{Seen, reading_test}
use Rattle.sheet.proofs.Told.{told}

-- a record's entry, by its rank
module _ (r : Record) where
  abbrev pub type_of : Fields Entry
  type_of = map_fields (λ i. type (type_entry r i)) (type_fields r.tag r.body (name_end r.body 0))

  abbrev pub constant_of : Fields Entry
  constant_of = map_fields constant (constant_fields r.tag r.body)

  abbrev pub global_of : Fields Entry
  global_of = map_fields global (global_fields r.body (name_end r.body 0))

  pub is_type : tag_rank r.tag ≡ 3 → entry_of r ≡ type_of
  unfolding entry_of
  is_type e = rw e

  pub is_constant : tag_rank r.tag ≡ 5 → entry_of r ≡ constant_of
  unfolding entry_of
  is_constant e = rw e

  pub is_global : tag_rank r.tag ≡ 6 → entry_of r ≡ global_of
  unfolding entry_of
  is_global e = rw e

  pub is_available_lem : tag_rank r.tag ≡ 1 → entry_of r ≡ map_fields available (available_fields r.body)
  unfolding entry_of
  is_available_lem e = rw e

  pub is_remap : tag_rank r.tag ≡ 2 → entry_of r ≡ map_fields remap (remap_fields r.body)
  unfolding entry_of
  is_remap e = rw e

  -- fifteen bytes stand behind a global's name
  pub global_long : tag_rank r.tag ≡ 6 → (n : Seen) → reading_test n r ≡ 0 → 3 ≤ length r.body
  unfolding global_fields
  global_long e n passed = let w : name_end r.body 0 + 15 ≡ length r.body = (told n r global_of (is_global e) passed).whole in omega (arith, w)
