-- A shape's instruction, its ids taken as words: all its other numbers are words already.
use Prim.Native.Nat.{ℕ, ◌+◌, ◌*◌, ◌≤◌, ◌<◌}
use mathlib.Core.Path.{◌≡◌, refl}
use mathlib.Core.List.{[], ◌∷◌, map}
use native.Mathlib.Omega.{arith}
use lib.ListN.{length}
use Rattle.definition.specs.Instructions.{words}
use Rattle.definition.specs.Shapes.{Shape, storage_class, type_of}
use Rattle.definition.specs.Shapes.{sint, uint, float, bool, one, many, scalar, vector, matrix, pointer, value_pointer, image, sampler, acceleration_structure, ray_query, binding_array, binding_pointer}
use Rattle.definition.proofs.Inners.{class_small}
use Rattle.lookup.specs.Packed.{SmallShape}
use Rattle.spirv.specs.Ids.{low}
use Rattle.finding.specs.Costs.{longer}

low_small : (n : ℕ) → n < 4294967296 → low n ≡ n
low_small n h = omega arith

pub type_low : (l : Shape) → SmallShape l → (id x y : ℕ) → map low (words (type_of l id x y)) ≡ words (type_of l (low id) (low x) (low y))
unfolding words
type_low (scalar (sint w)) h id x y = let e = low_small (8 * w) (omega arith) in λ i. 262165 ∷ low id ∷ e i ∷ 1 ∷ []
type_low (scalar (uint w)) h id x y = let e = low_small (8 * w) (omega arith) in λ i. 262165 ∷ low id ∷ e i ∷ 0 ∷ []
type_low (scalar (float w)) h id x y = let e = low_small (8 * w) (omega arith) in λ i. 196630 ∷ low id ∷ e i ∷ []
type_low (scalar bool) h id x y = refl
type_low (vector n k) h id x y = let e = low_small n (omega arith) in λ i. 262167 ∷ low id ∷ low x ∷ e i ∷ []
type_low (matrix c r w) h id x y = let e = low_small c (omega arith) in λ i. 262168 ∷ low id ∷ low x ∷ e i ∷ []
type_low (pointer b c) h id x y = let e = low_small c (omega arith) in λ i. 262176 ∷ low id ∷ e i ∷ low x ∷ []
type_low (value_pointer one k c) h id x y = let e = low_small c (omega arith) in λ i. 262176 ∷ low id ∷ e i ∷ low x ∷ []
type_low (value_pointer (many n) k c) h id x y = let e = low_small c (omega arith) in λ i. 262176 ∷ low id ∷ e i ∷ low x ∷ []
type_low (image k d p a m s f) h id x y =
    let e1 = low_small d (omega arith) in
    let e2 = low_small p (omega arith) in
    let e3 = low_small a (omega arith) in
    let e4 = low_small m (omega arith) in
    let e5 = low_small s (omega arith) in
    let e6 = low_small f (omega arith) in
    λ i. 589849 ∷ low id ∷ low x ∷ e1 i ∷ e2 i ∷ e3 i ∷ e4 i ∷ e5 i ∷ e6 i ∷ []
type_low sampler h id x y = refl
type_low acceleration_structure h id x y = refl
type_low ray_query h id x y = refl
type_low (binding_array b n) h id x y = refl
type_low (binding_pointer b n s a) h id x y = let e = low_small (storage_class s) (omega (arith, class_small s)) in λ i. 262176 ∷ low id ∷ e i ∷ low x ∷ []

pub type_few : (l : Shape) (id x y : ℕ) → length (words (type_of l id x y)) ≤ 4 + longer l
unfolding words
type_few (scalar (sint w)) id x y = omega arith
type_few (scalar (uint w)) id x y = omega arith
type_few (scalar (float w)) id x y = omega arith
type_few (scalar bool) id x y = omega arith
type_few (vector n k) id x y = omega arith
type_few (matrix c r w) id x y = omega arith
type_few (pointer b c) id x y = omega arith
type_few (value_pointer n k c) id x y = omega arith
type_few (image k d p a m s f) id x y = omega arith
type_few sampler id x y = omega arith
type_few acceleration_structure id x y = omega arith
type_few ray_query id x y = omega arith
type_few (binding_array b n) id x y = omega arith
type_few (binding_pointer b n s a) id x y = omega arith
