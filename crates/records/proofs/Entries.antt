-- A type among those that were read before: there are as many as places, and each is what its record says.
use Prim.Native.Nat.{ℕ, zero, suc, ◌≤◌, ◌<◌}
use mathlib.Core.Path.{◌≡◌, ap, refl}
use mathlib.Core.List.{List, [], ◌∷◌, map}
use native.Mathlib.Omega.{arith}
use native.Mathlib.Nat.{not-suc-le-zero}
use lib.ListN.{length, drop, get_or, length-map, get_or-eq_default}
use Rattle.definition.specs.Bytes.{name_end}
use Rattle.definition.specs.Sheet.{TypeEntry, type_fields, record_at, AccelerationStructure}
use Rattle.definition.specs.Rules.{no_entry, inner_at}
use Rattle.records.specs.declared.Earlier.{Earlier}
use Rattle.records.specs.Places.{type_from, types_in}

-- the entry of the k-th place
pub at_place : (s os : List ℕ) (k : ℕ) (d : TypeEntry) → k < length os → get_or (map (type_from s) os) k d ≡ type_from s (get_or os k 0)
at_place s [] k d h = absurd (not-suc-le-zero h)
at_place s (o ∷ os) zero d h = refl
at_place s (o ∷ os) (suc k) d h = at_place s os k d (omega arith)

-- the types are as many as the places
pub count : (e : Earlier) → length (types_in e) ≡ length e.places.now
count e = length-map e.places.now (type_from e.sheet.now)

module _ (e : Earlier) (i : ℕ) where
  -- type i is of the i-th place
  pub placed : i < length e.places.now → (d : TypeEntry) → get_or (types_in e) i d ≡ type_from e.sheet.now (get_or e.places.now i 0)
  placed lt d = at_place e.sheet.now e.places.now i d lt

  -- its fields, of the tag, the body and the name's end that the program has read
  pub inner_read : i < length e.places.now → (rest b : List ℕ) (t at : ℕ) → rest ≡ drop (get_or e.places.now i 0) e.sheet.now → b ≡ (record_at rest).body → t ≡ (record_at rest).tag → at ≡ name_end b 0
      → inner_at (types_in e) i ≡ (type_fields t b at).value
  inner_read lt rest b t at er eb et ea = rw (ea, et, eb, er) (ap (λ (x : TypeEntry). x.inner) (placed lt no_entry))

  -- past the places there is none
  pub inner_past : length e.places.now ≤ i → inner_at (types_in e) i ≡ AccelerationStructure
  inner_past h = ap (λ (x : TypeEntry). x.inner) (get_or-eq_default (types_in e) no_entry (omega (arith, count e)))
