-- The table of forms is the definition's layouts, opcode by opcode (`in_table`). A form that is there is that of a known layout (`known_form`), and with it test 20 reads the form alone
-- (`written_as`).
use Prim.Native.Nat.{ℕ, zero, suc, ◌+◌, ◌<◌}
use mathlib.Core.Path.{◌≡◌, refl, ap, ◌∙◌}
use mathlib.Core.Bool.{Bool, true, false, ◌&&◌}
use native.Mathlib.Omega.{arith}
use borrow.Author.Tests.{le-leb}
use lib.Dec.{eqb, leb}
use lib.ListN.{get_or}
use Rattle.std.specs.Prelude.{Option, Some, None}
use Rattle.definition.specs.Choice.{pick, within}
use Rattle.definition.specs.Reader.{layout_of}
use Rattle.definition.specs.Listing.{More, exactly, or_one, or_any, more_of, count_fits, is_written}
use Rattle.listing.specs.declared.forms.Form.{Form}
use Rattle.listing.specs.Forms.{least_in, most_as, form_as, form_of, forms_from, first_forms, fits}

-- ---- the table

form_at : (k o i : ℕ) (d : Option Form) → i < k → get_or (forms_from k o) i d ≡ form_of (o + i)
form_at zero o i d h = absurd (omega arith)
form_at (suc k) o zero d h = let q : o ≡ o + 0 = omega arith in ap form_of q
form_at (suc k) o (suc i) d h = let q : suc o + i ≡ o + suc i = omega arith in form_at k (suc o) i d (omega arith) ∙ ap form_of q

pub in_table : (o : ℕ) (d : Option Form) → o < 73 → get_or first_forms o d ≡ form_of o
in_table o d h = let q : 0 + o ≡ o = omega arith in form_at 73 0 o d h ∙ ap form_of q

-- ---- a form that is there

pub record Known (k : Bool) (g f : Form) : Type 0 where
  pub known : k ≡ true
  pub form : f ≡ g

known_form : (k : Bool) (g f : Form) → Some f ≡ pick k (Some g) None → Known k g f
known_form true g f e = record { known = refl; form = cc }
known_form false g f e = let y : ◌≡◌ {A = ℕ} 0 1 = cc in absurd (omega arith)

no_form : (k : Bool) (g : Form) (b : Bool) → None ≡ pick k (Some g) None → (k && b) ≡ false
no_form false g b e = refl
no_form true g b e = let y : ◌≡◌ {A = ℕ} 0 1 = cc in absurd (omega arith)

eqb_within : (least n : ℕ) → eqb n least ≡ within least least n
eqb_within least n = grind arith

by_count : (m : More) (least n : ℕ) → n < 18446744073709551616 → count_fits m least n ≡ within least (most_as m least) n
by_count exactly least n h = eqb_within least n
by_count or_one least n h = refl
by_count or_any least n h = rw (le-leb n 18446744073709551615 (omega arith)) (go (leb least n))
  where
    go : (b : Bool) → b ≡ (b && true)
    go true = refl
    go false = refl

module _ (o : ℕ) where
  pub form_is : (f : Form) → Some f ≡ form_of o → Known (layout_of o).known (form_as (layout_of o)) f
  form_is f e = known_form (layout_of o).known (form_as (layout_of o)) f e

  pub written_as : (f : Form) (n : ℕ) → n < 18446744073709551616 → Some f ≡ form_of o → is_written o n ≡ fits f n
  unfolding is_written
  written_as f n h e =
      let l = layout_of o in
      let k = form_is f e in
      rw (k.known, k.form) (by_count (more_of l.operands) (least_in l) n h)

  pub unwritten : (n : ℕ) → None ≡ form_of o → is_written o n ≡ false
  unfolding is_written
  unwritten n e = no_form (layout_of o).known (form_as (layout_of o)) _ e
