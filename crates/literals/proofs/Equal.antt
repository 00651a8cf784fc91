-- A literal is its form and its bits: it is made of the two again. So two literals are the same where both agree.
use Prim.Native.Nat.{ℕ, zero, suc}
use mathlib.Core.Path.{◌≡◌, refl, sym, ap, ◌∙◌}
use Rattle.definition.specs.Literals.{Literal, f64, f32, u32, i32, boolean}
use Rattle.literals.specs.Forms.{literal_form, bits_of}

again : ℕ → ℕ → Literal
again zero n = f64 n
again (suc zero) n = f32 n
again (suc (suc zero)) n = u32 n
again (suc (suc (suc zero))) n = i32 n
again (suc (suc (suc (suc k)))) n = boolean n

is_again : (x : Literal) → x ≡ again (literal_form x) (bits_of x)
unfolding again
is_again (f64 n) = refl
is_again (f32 n) = refl
is_again (u32 n) = refl
is_again (i32 n) = refl
is_again (boolean n) = refl

pub same_literal_lem : (x y : Literal) → literal_form x ≡ literal_form y → bits_of x ≡ bits_of y → x ≡ y
same_literal_lem x y e k = is_again x ∙ ap (again (literal_form x)) k ∙ ap (λ (j : ℕ). again j (bits_of y)) e ∙ sym (is_again y)
