-- What a passed test 10 tells of a global's binding, so that the case that was taken has the field's number.
use mathlib.Core.Path.{◌≡◌, sym}
use mathlib.Core.Bool.{true}
use native.Mathlib.Omega.{arith}
use borrow.Author.Tests.{leb-true, eqb-true}
use lib.Dec.{eqb, leb}
use Rattle.definition.specs.Sheet.{Global}
use Rattle.definition.specs.Tests.{binding_fits}
use Rattle.definition.proofs.Truth.{both}

module _ (g : Global) (h : binding_fits g ≡ true) where
  pub unbound : g.bound ≡ 0 → (0 ≡ g.group) × (0 ≡ g.binding)
  unfolding binding_fits
  unbound e =
      let z = both (eqb g.group 0) (eqb g.binding 0) (simp e at h) in
      (sym (eqb-true g.group 0 z.0), sym (eqb-true g.binding 0 z.1))

  pub bound : (g.bound ≡ 0 → ⊥) → 1 ≡ g.bound
  unfolding binding_fits
  bound f = let l = leb-true g.bound 1 (both (leb g.bound 1) _ h).0 in omega arith
