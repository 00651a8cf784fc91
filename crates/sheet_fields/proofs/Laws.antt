-- Small laws on tests, and which records have a form.
use Prim.Native.Nat.{ℕ, zero, suc}
use mathlib.Core.Path.{◌≡◌, refl, sym, ap, ◌∙◌}
use mathlib.Core.Bool.{Bool, true, false, ◌&&◌}
use native.Mathlib.Omega.{arith}
use borrow.Author.Tests.{ne_eqb, lt-leb, eqb-true}
use lib.Dec.{eqb, leb}
use mathlib.Core.List.{List}
use Rattle.definition.specs.Choice.{pick, unless}
use Rattle.definition.specs.Sheet.{form_of, tag_rank}
use Rattle.definition.specs.Tests.{form_known}
use Rattle.sheet_fields.specs.Fields.{record_of}

-- only 0 is at most 0
pub leb_zero : (a : ℕ) → leb a 0 ≡ eqb a 0
leb_zero zero = refl
leb_zero (suc a) = lt-leb (suc a) 0 (omega arith) ∙ sym (ne_eqb (suc a) 0 (λ e. omega (arith, e)))

-- a test of two things is a test of each
pub unless_both : (a b : Bool) (n x : ℕ) → unless (a && b) n x ≡ unless a n (unless b n x)
unless_both true b n x = refl
unless_both false b n x = refl

-- a record that is no constant has no form that could be unknown
pub no_form : (t : ℕ) (b : List ℕ) → (tag_rank t ≡ 5 → ⊥) → form_known (record_of t b) ≡ true
unfolding tag_rank
no_form t b h = go (eqb t 64) refl
  where
    go : (c : Bool) → eqb t 64 ≡ c → pick c (leb (form_of b) 4) true ≡ true
    go false e = refl
    go true e = absurd (h (ap tag_rank (eqb-true t 64 e)))
