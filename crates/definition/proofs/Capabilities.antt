-- Capabilities are few and their numbers small: what is listed is needed by a declared type, and what a type needs is one of the
-- capabilities that the rules name.
use Prim.Native.Nat.{ℕ, suc, zero, ◌≤◌, min}
use mathlib.Core.Path.{◌≡◌, refl, ap}
use mathlib.Core.List.{List, [], ◌∷◌, Memᴰ}
use mathlib.Core.Logic.{◌⊎◌, inl, inr}
use mathlib.Core.Bool.{◌&&◌}
use native.Mathlib.Omega.{arith}
use lib.Dec.{eqb, lit≤}
use Rattle.definition.specs.Choice.{among}
use Rattle.definition.specs.Numbers.{OpTypeInt, OpTypeFloat, OpTypeImage, OpTypeAccelerationStructureKHR, OpTypeRayQueryKHR, Dim1D, DimCube}
use Rattle.definition.specs.Instructions.{Instruction}
use Rattle.definition.specs.State.{same, occurrences}
use Rattle.definition.specs.ReadTypes.{operand}
use Rattle.definition.specs.WellDeclared.{int_needs, float_needs, extended_format, format_needs, dim_needs, image_needs, needs, needed}
use Rattle.definition.proofs.Lists.{same_itself, same_cases}
use Rattle.definition.proofs.Sizes.{W, Under, under-append}
use Rattle.definition.proofs.Truth.{pick_for}

-- a number that stands in a list is counted there, and one that is counted in a list of small numbers is small
counted : (c : ℕ) (cs : List ℕ) → Memᴰ c cs → 1 ≤ occurrences c cs
unfolding occurrences
counted c [] m = elim m [ ]
counted c (x ∷ xs) (Memᴰ.head e) = omega (arith, ap (same c) e, same_itself c)
counted c (x ∷ xs) (Memᴰ.tail m) = let h = counted c xs m in omega arith

small_counted : (B c : ℕ) (cs : List ℕ) → Under B cs → 1 ≤ occurrences c cs → c ≤ B
unfolding occurrences
small_counted B c [] u h = absurd (omega arith)
small_counted B c (x ∷ xs) u h = go (same_cases c x) (small_counted B c xs u.1)
  where
    go : (same c x ≡ 0) ⊎ ((c ≡ x) × (same c x ≡ 1)) → (1 ≤ occurrences c xs → c ≤ B) → c ≤ B
    go (inl e) f = f (omega arith)
    go (inr e) f = omega (arith, u.0, e.0)

int_under : (b : ℕ) → Under W (int_needs b)
int_under b = pick_for (Under W) (eqb b 8) _ _ (lit≤ tt, tt) (pick_for (Under W) (eqb b 16) _ _ (lit≤ tt, tt) (pick_for (Under W) (eqb b 64) _ [] (lit≤ tt, tt) tt))

float_under : (b : ℕ) → Under W (float_needs b)
float_under b = pick_for (Under W) (eqb b 16) _ _ (lit≤ tt, tt) (pick_for (Under W) (eqb b 64) _ [] (lit≤ tt, tt) tt)

format_under : (f : ℕ) → Under W (format_needs f)
format_under f = pick_for (Under W) (extended_format f) _ [] (lit≤ tt, tt) tt

dim_under : (d a s : ℕ) → Under W (dim_needs d a s)
dim_under d a s =
    pick_for (Under W) (eqb s 2) _ _
    (pick_for (Under W) (eqb d Dim1D) _ _ (lit≤ tt, tt) (pick_for (Under W) (eqb d DimCube && eqb a 1) _ [] (lit≤ tt, tt) tt))
    (pick_for (Under W) (eqb d Dim1D) _ _ (lit≤ tt, tt) (pick_for (Under W) (eqb d DimCube && eqb a 1) _ [] (lit≤ tt, tt) tt))

image_under : (i : Instruction) → Under W (image_needs i)
image_under i = under-append W (format_needs (operand i 6)) (dim_needs (operand i 1) (operand i 3) (operand i 5)) (format_under (operand i 6)) (dim_under (operand i 1) (operand i 3) (operand i 5))

needs_under : (d : Instruction) → Under W (needs d)
unfolding needs
needs_under d =
    pick_for (Under W) (eqb d.opcode OpTypeInt) _ _ (int_under (operand d 0))
    (pick_for (Under W) (eqb d.opcode OpTypeFloat) _ _ (float_under (operand d 0))
    (pick_for (Under W) (eqb d.opcode OpTypeImage) _ _ (image_under d)
    (pick_for (Under W) (among d.opcode (OpTypeAccelerationStructureKHR ∷ OpTypeRayQueryKHR ∷ [])) _ [] (lit≤ tt, tt) tt)))

small_needed : (c : ℕ) (ds : List Instruction) → 1 ≤ needed c ds → c ≤ W
unfolding needed
small_needed c [] h = absurd (omega arith)
small_needed c (d ∷ ds) h = go (occurrences c (needs d)) refl (small_needed c ds)
  where
    go : (n : ℕ) → occurrences c (needs d) ≡ n → (1 ≤ needed c ds → c ≤ W) → c ≤ W
    go zero e f = f (omega arith)
    go (suc n) e f = small_counted W c (needs d) (needs_under d) (omega arith)

-- the capabilities listed are small, where each is listed exactly if it is needed
pub small_listed : (cs : List ℕ) (ds : List Instruction) → ((c : ℕ) → occurrences c cs ≡ min 1 (needed c ds)) → (c : ℕ) → Memᴰ c cs → c ≤ W
small_listed cs ds h c m = small_needed c ds (omega (arith, h c, counted c cs m))
