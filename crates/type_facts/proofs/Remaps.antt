-- The first remap of a group and a binding, among those from a place on: the remap at the place is the one, or it is passed.
use Prim.Native.Nat.{ℕ, zero, suc, ◌+◌, ◌≤◌, ◌<◌}
use mathlib.Core.Path.{◌≡◌, ap}
use mathlib.Core.Bool.{◌&&◌}
use mathlib.Core.List.{List, [], ◌∷◌, map}
use Rattle.std.specs.Prelude.{Option, Some, None}
use native.Mathlib.Numerals.{add-one}
use native.Mathlib.Omega.{arith}
use native.Mathlib.Nat.{not-suc-le-zero}
use lib.Dec.{eqb}
use lib.ListN.{length, drop, get_or}
use lib.Seq.{drop-cons, drop-nil}
use Rattle.definition.specs.Choice.{pick}
use Rattle.definition.specs.Rules.{remap_of}
use Rattle.records.specs.Places.{remap_from}

-- the first among those of the places os that stand from the k-th on
abbrev pub remap_among : List ℕ → List ℕ → ℕ → ℕ → ℕ → Option ℕ
remap_among s os g b k = remap_of (map (remap_from s) (drop k os)) g b

drop_all : (k : ℕ) (os : List ℕ) → length os ≤ k → drop k os ≡ []
drop_all k [] h = drop-nil k
drop_all zero (o ∷ os) h = absurd (not-suc-le-zero h)
drop_all (suc k) (o ∷ os) h = drop_all k os (omega arith)

module _ (s os : List ℕ) (g b k : ℕ) where
  pub no_more : length os ≤ k → remap_among s os g b k ≡ None
  unfolding remap_of
  no_more h = ap (λ (l : List ℕ). remap_of (map (remap_from s) l) g b) (drop_all k os h)

  pub turn : k < length os → remap_among s os g b k ≡ pick (eqb (remap_from s (get_or os k 0)).group g && eqb (remap_from s (get_or os k 0)).binding b) (Some (remap_from s (get_or os k 0)).size) (remap_among s os g b (k + 1))
  unfolding remap_of
  turn lt =
      let c : drop k os ≡ get_or os k 0 ∷ drop (k + 1) os = rw (add-one, drop-cons os k 0) in
      ap (λ (l : List ℕ). remap_of (map (remap_from s) l) g b) c
