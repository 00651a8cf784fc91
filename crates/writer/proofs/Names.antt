-- A name's instruction: its bytes make words, so only the id that it names is taken modulo 2^32.
use Prim.Native.Nat.{ℕ, suc, ◌+◌, ◌*◌, ◌≤◌, ◌<◌}
use mathlib.Core.Path.{◌≡◌, refl}
use mathlib.Core.List.{List, [], ◌∷◌, map}
use native.Mathlib.Omega.{arith}
use lib.ListN.{length, get_or}
use Rattle.definition.specs.Instructions.{words, name, member_name, packed, little_endian}
use Rattle.spirv.specs.Ids.{low}
use Rattle.writer.specs.Steps.{Spells}

pub packed_few : (bs : List ℕ) → length (packed bs) ≤ length bs + 1
unfolding packed
packed_few [] = omega arith
packed_few (a ∷ []) = omega arith
packed_few (a ∷ (b ∷ [])) = omega arith
packed_few (a ∷ (b ∷ (c ∷ []))) = omega arith
packed_few (a ∷ (b ∷ (c ∷ (d ∷ bs)))) = omega (arith, packed_few bs)

packed_low : (bs : List ℕ) → ((i : ℕ) → get_or bs i 0 < 256) → map low (packed bs) ≡ packed bs
unfolding packed
packed_low [] h = refl
packed_low (a ∷ []) h = let e : low (little_endian a 0 0 0) ≡ little_endian a 0 0 0 = omega (arith, h 0) in λ j. e j ∷ []
packed_low (a ∷ (b ∷ [])) h = let e : low (little_endian a b 0 0) ≡ little_endian a b 0 0 = omega (arith, h 0, h 1) in λ j. e j ∷ []
packed_low (a ∷ (b ∷ (c ∷ []))) h = let e : low (little_endian a b c 0) ≡ little_endian a b c 0 = omega (arith, h 0, h 1, h 2) in λ j. e j ∷ []
packed_low (a ∷ (b ∷ (c ∷ (d ∷ bs)))) h =
    let e : low (little_endian a b c d) ≡ little_endian a b c d = omega (arith, h 0, h 1, h 2, h 3) in
    let r = packed_low bs (λ i. h (suc (suc (suc (suc i))))) in
    λ j. e j ∷ r j

name_few : (t : ℕ) (bs : List ℕ) → length (words (name t bs)) ≤ length bs + 3
unfolding words
name_few t bs = omega (arith, packed_few bs)

spelt : (target : ℕ) (bs : List ℕ) → length bs < 256 → ((i : ℕ) → get_or bs i 0 < 256) → map low (words (name target bs)) ≡ words (name (low target) bs)
unfolding words
spelt target bs few h =
    let f = packed_few bs in
    let e : low (65536 * suc (suc (length (packed bs))) + 5) ≡ 65536 * suc (suc (length (packed bs))) + 5 = omega arith in
    let r = packed_low bs h in
    λ j. e j ∷ low target ∷ r j

member_few : (t i : ℕ) (bs : List ℕ) → length (words (member_name t i bs)) ≤ length bs + 4
unfolding words
member_few t i bs = omega (arith, packed_few bs)

spelt_member : (target i : ℕ) (bs : List ℕ) → i < 4294967296 → length bs < 256 → ((j : ℕ) → get_or bs j 0 < 256) → map low (words (member_name target i bs)) ≡ words (member_name (low target) i bs)
unfolding words
spelt_member target i bs hi few h =
    let f = packed_few bs in
    let e : low (65536 * suc (suc (suc (length (packed bs)))) + 6) ≡ 65536 * suc (suc (suc (length (packed bs)))) + 6 = omega arith in
    let k : low i ≡ i = omega arith in
    let r = packed_low bs h in
    λ j. e j ∷ low target ∷ k j ∷ r j

pub is_name : (target : ℕ) (bs : List ℕ) → length bs < 256 → ((i : ℕ) → get_or bs i 0 < 256) → Spells (length bs + 3) (name target bs) (words (name (low target) bs))
is_name target bs few small = record { few = name_few (low target) bs; spelt = spelt target bs few small }

pub is_member_name : (target i : ℕ) (bs : List ℕ) → i < 4294967296 → length bs < 256 → ((j : ℕ) → get_or bs j 0 < 256) → Spells (length bs + 4) (member_name target i bs) (words (member_name (low target) i bs))
is_member_name target i bs hi few small = record { few = member_few (low target) i bs; spelt = spelt_member target i bs hi few small }
