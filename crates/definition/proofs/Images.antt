-- The capabilities of an image, by the reader and by the rules: the reader goes by ranges of formats and by whether the image is for
-- storage, the rules by a list of formats and by whether it is sampled. They agree on every format and every dimension.
use Prim.Native.Nat.{ℕ, suc, zero, ◌<◌, ◌≤◌}
use mathlib.Core.Path.{◌≡◌, refl, sym}
use mathlib.Core.Logic.{inl, inr}
use mathlib.Core.List.{List, [], ◌∷◌, ◌++◌}
use mathlib.Core.Bool.{Bool, true, false, ◌&&◌, beq}
use native.Mathlib.Decide.{ℕ_discrete}
use native.Mathlib.Omega.{arith}
use lib.Dec.{T, ltb, leb, ltb→lt}
use borrow.Author.Tests.{ne_eqb, le-leb, lt-leb, leb-true, leb-false}
use Rattle.definition.specs.Choice.{among, every}
use Rattle.definition.specs.Finding.{extended_formats, format_capabilities, dim_capabilities}
use Rattle.definition.specs.WellDeclared.{extended_format, format_needs, dim_needs}
use Rattle.definition.proofs.Truth.{both_true, alike_is}
use Rattle.definition.proofs.Sizes.{SampledOrStorage}

-- ---- formats: under 40 by one computed test, above by size

abbrev agree_below : ℕ → Bool
agree_below zero = true
agree_below (suc n) = beq (extended_format n) (among n extended_formats) && agree_below n

agree_below_lem : (n f : ℕ) → T (agree_below n) → f < n → extended_format f ≡ among f extended_formats
agree_below_lem zero f t l = absurd (omega arith)
agree_below_lem (suc n) f t l =
    let q = both_true (beq (extended_format n) (among n extended_formats)) (agree_below n) t in
    go (ℕ_discrete f n) (alike_is (extended_format n) (among n extended_formats) q.0) (agree_below_lem n f q.1)
  where
    go : Dec (f ≡ n) → extended_format n ≡ among n extended_formats → (f < n → extended_format f ≡ among f extended_formats) → extended_format f ≡ among f extended_formats
    go (yes e) h g = rw e h
    go (no e) h g = g (omega arith)

among_above : (f n : ℕ) (ks : List ℕ) → T (every (λ k. ltb k n) ks) → n ≤ f → among f ks ≡ false
among_above f n [] t l = refl
among_above f n (k ∷ ks) t l =
    let q = both_true (ltb k n) (every (λ k. ltb k n) ks) t in
    rw (ne_eqb f k (λ e. omega (arith, ltb→lt k n q.0))) (among_above f n ks q.1 l)

formats_agree : (f : ℕ) → extended_format f ≡ among f extended_formats
formats_agree f = go (leb 40 f) refl
  where
    go : (b : Bool) → leb 40 f ≡ b → extended_format f ≡ among f extended_formats
    go true e =
        let l : 40 ≤ f = leb-true 40 f e in
        rw (le-leb 6 f (omega arith), lt-leb f 20 (omega arith), le-leb 25 f (omega arith), lt-leb f 29 (omega arith), le-leb 34 f (omega arith), lt-leb f 39 (omega arith)) (sym (among_above f 40 extended_formats tt l))
    go false e = agree_below_lem 40 f tt (leb-false 40 f e)

-- ---- dimensions

dims_agree : (d a s : ℕ) → SampledOrStorage s → dim_needs d a s ≡ dim_capabilities d a s
unfolding dim_capabilities
dims_agree d a s (inl e) = rw e refl
dims_agree d a s (inr e) = rw e refl

pub images_agree : (d a s f : ℕ) → SampledOrStorage s → format_needs f ++ dim_needs d a s ≡ format_capabilities f ++ dim_capabilities d a s
unfolding format_capabilities
images_agree d a s f h = rw (formats_agree f, dims_agree d a s h) refl
