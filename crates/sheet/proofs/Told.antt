-- What tests 8 to 12 tell of a record that passed them: the fields of its entry end where the body does, their values fit and what
-- they name was read. Then the same of a function, in numbers.
use Prim.Native.Nat.{◌+◌, ◌*◌, ◌≤◌}
use mathlib.Core.Path.{◌≡◌, sym, subst}
use mathlib.Core.Bool.{true}
use native.Mathlib.Omega.{arith}
use borrow.Author.Tests.{eqb-true}
use lib.Dec.{eqb}
use lib.ListN.{length}
use Rattle.definition.specs.Bytes.{u8_at}
use Rattle.definition.specs.Choice.{every}
use Rattle.definition.specs.Utf8.{name_fits}
use Rattle.definition.specs.Sheet.{Record, Fields, Entry, entry_of, tag_rank, map_fields, function_fields, function}
use Rattle.definition.specs.Tests.{Seen, form_known, names_of, values_fit, read_already, below, types_named, entry_test, reading_test, place_test}
use Rattle.definition.proofs.Truth.{both, first_passed, unless_zero}

-- what the tests tell of an entry that ends at a place of the body
pub record Told (n : Seen) (r : Record) (f : Fields Entry) : Type 0 where
  pub whole : f.end ≡ length r.body
  pub values : values_fit f.value ≡ true
  pub read : read_already n f.value ≡ true

pub told : (n : Seen) (r : Record) (f : Fields Entry) → entry_of r ≡ f → reading_test n r ≡ 0 → Told n r f
unfolding reading_test entry_test
told n r f e passed =
    let x = subst (λ (g : Fields Entry). entry_test n r g.value g.end ≡ 0) e (first_passed (place_test n r.tag) _ passed).1 in
    let a = unless_zero (form_known r) 9 _ x in
    let b = unless_zero (eqb f.end (length r.body)) 7 _ a.1 in
    let c = unless_zero (every name_fits (names_of f.value)) 8 _ b.1 in
    let d = unless_zero (values_fit f.value) 9 _ c.1 in
    let g = unless_zero (read_already n f.value) 10 _ d.1 in
    record { whole = eqb-true f.end (length r.body) b.0; values = d.0; read = g.0 }

-- the types that the entry names were read
pub names_types : (n : Seen) (r : Record) (f : Fields Entry) → Told n r f → below (length n.types) (types_named f.value) ≡ true
names_types n r f t = (both (below (length n.types) (types_named f.value)) _ t.read).0

-- ---- a function

abbrev pub function_of : Record → Fields Entry
function_of r = map_fields function (function_fields r.body)

pub is_function : (r : Record) → tag_rank r.tag ≡ 4 → entry_of r ≡ function_of r
unfolding entry_of
is_function r e = rw e

module _ (n : Seen) (r : Record) (e : tag_rank r.tag ≡ 4) (passed : reading_test n r ≡ 0) where
  -- the body is as long as its fields
  pub function_whole : length r.body ≡ 3 + 2 * u8_at r.body 2
  unfolding function_fields
  function_whole = sym (told n r (function_of r) (is_function r e) passed).whole

  pub function_long : 3 ≤ length r.body
  function_long = omega (arith, function_whole)
