-- What `array::from_fn` fills in, where no call changes the closure: at each index what the closure gives there. An element is the
-- first one filled in, or one of those after it.
use Prim.Native.Nat.{ℕ, zero, suc, ◌+◌, ◌<◌, ◌≤◌}
use mathlib.Core.Path.{◌≡◌, ap, sym, ◌∙◌, subst}
use mathlib.Core.List.{List}
use native.Mathlib.Omega.{arith}
use native.Mathlib.Decide.{ℕ_discrete}
use Rattle.std.proofs.Common.{slice_index}
use Rattle.std.specs.Fn.{Called}
use Rattle.std.specs.Array.{IsFromFnResult, IsFromFnResultFrom}
use denote.Param.Members.{Mut}

module _ {F : Type 0} (g : Mut F (ℕ × Unit {0}) ℕ) (given : ℕ → ℕ) (f : F)
    (gives : (i y : ℕ) (q : F) → Called g f (i, tt) y q → (y ≡ given i) × (q ≡ f)) (ys : List ℕ) where
  filled : (n i : ℕ) → IsFromFnResultFrom g f ys i n → (k : ℕ) → i ≤ k → k < i + n → slice_index ys k ≡ given k
  filled zero i r k p q = absurd (omega arith)
  filled (suc n) i r k p q =
      let call = gives i r.1 r.0 r.3 in
      elim (ℕ_discrete i k) [
        | yes e ↦ ap (slice_index ys) (sym e) ∙ (r.2).1 0 ∙ call.0 ∙ ap given e
        | no e ↦ filled n (i + 1) (subst (λ (h : F). IsFromFnResultFrom g h ys (i + 1) n) call.1 r.4) k (omega arith) (omega arith)
      ]

  pub filled_all : (n : ℕ) → IsFromFnResult g f ys n → (k : ℕ) → k < n → slice_index ys k ≡ given k
  filled_all n r k p = filled n 0 r.each k (omega arith) (omega arith)
