-- The words of a body, taken four bytes at a time, are the numbers that the definition reads from place to place.
use Prim.Native.Nat.{ℕ, zero, suc, ◌+◌, ◌<◌}
use mathlib.Core.Path.{◌≡◌, refl, ap, ◌∙◌}
use mathlib.Core.Bool.{Bool, true, false, ◌||◌}
use mathlib.Core.List.{List}
use native.Mathlib.Omega.{arith}
use lib.Dec.{eqb}
use lib.ListN.{take, drop}
use Rattle.std.proofs.lemmas.List.{get_or-take, get_or-drop, drop-drop}
use Rattle.std.specs.Simd.{first_chunks}
use Rattle.std.specs.List.{list_any}
use Rattle.definition.specs.Choice.{pick, among}
use Rattle.definition.specs.Bytes.{u32_at, u16_at, u8_at}
use Rattle.definition.specs.Sheet.{u32s_at}

one_byte : (b : List ℕ) (p i j : ℕ) → i < 4 → p + i ≡ j → u8_at (take 4 (drop p b)) i ≡ u8_at b j
one_byte b p i j h e = get_or-take 4 (drop p b) i 0 h ∙ get_or-drop p b i 0 ∙ ap (u8_at b) e

one_word : (b : List ℕ) (p : ℕ) → u32_at (take 4 (drop p b)) 0 ≡ u32_at b p
unfolding u32_at u16_at
one_word b p =
    let a0 = one_byte b p 0 p (omega arith) (omega arith) in
    let a1 = one_byte b p 1 (p + 1) (omega arith) refl in
    let a2 = one_byte b p 2 (p + 2) (omega arith) refl in
    let a3 = one_byte b p 3 (p + 2 + 1) (omega arith) (omega arith) in
    rw (a0, a1, a2, a3)

either : (x y : Bool) → (x || y) ≡ pick x true y
either true y = refl
either false y = refl

-- of the first k words from a place on
pub listed : (capability k : ℕ) (b : List ℕ) (p : ℕ) → list_any (λ w. eqb capability (u32_at w 0)) (first_chunks 4 k (drop p b)) ≡ among capability (u32s_at b p k)
unfolding u32s_at
listed x zero b p = refl
listed x (suc k) b p = rw (one_word b p, drop-drop 4 p b, listed x k b (p + 4)) (either (eqb x (u32_at b p)) (among x (u32s_at b (p + 4) k)))
