-- Where a space is matched against Function, each of the others has another number. A storage class is a byte.
use Prim.Native.Nat.{ℕ, ◌<◌}
use native.Mathlib.Omega.{arith}
use mathlib.Core.Path.{◌≡◌, refl}
use mathlib.Core.Bool.{false}
use lib.Dec.{eqb}
use Rattle.definition.specs.Shapes.{storage_class}
use Rattle.definition.proofs.Truth.{pick_for}
use Rattle.kinds.specs.Numbers.{space_number}
use Rattle.kinds.specs.declared.AddressSpace.{AddressSpace}
use Rattle.kinds.specs.declared.AddressSpace.TheVariants.{Function, Private, WorkGroup, Uniform, Storage, Handle, PushConstant}

pub not_function : (s : AddressSpace) → (s ≡ Function → ⊥) → eqb (space_number s) 0 ≡ false
not_function Function h = absurd (h refl)
not_function Private h = refl
not_function WorkGroup h = refl
not_function Uniform h = refl
not_function (Storage a) h = refl
not_function Handle h = refl
not_function PushConstant h = refl

pub class_low : (s : ℕ) → storage_class s < 256
class_low s =
    let P : ℕ → Type 0 = λ c. c < 256 in
    pick_for P (eqb s 0) _ _ (omega arith) (pick_for P (eqb s 1) _ _ (omega arith) (pick_for P (eqb s 2) _ _ (omega arith) (pick_for P (eqb s 3) _ _ (omega arith)
    (pick_for P (eqb s 4) _ _ (omega arith) (pick_for P (eqb s 5) _ _ (omega arith) (omega arith))))))
