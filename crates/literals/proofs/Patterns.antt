-- Every bit of a float is kept, whatever the format: a pattern that is no NaN's comes back from the float that is made of it.
use Prim.Native.Nat.{ℕ, ◌*◌, ◌<◌}
use mathlib.Core.Path.{◌≡◌, subst}
use mathlib.Core.Bool.{Bool, not}
use lib.Dec.{T}
use lib.Ieee.{Format, nan_bits, to_bits, of_bits, top}
use lib.Ieee.Bits.{nan_bits_is, to_bits-of_bits}

-- 2 * top f is 2 to the format's width
pub comes_back : (f : Format) (n : ℕ) → n < 2 * top f → T (not (nan_bits f n)) → to_bits f (of_bits f n) ≡ n
comes_back f n small h = to_bits-of_bits f n small (subst (λ (t : Bool). T (not t)) (nan_bits_is f n) h)
