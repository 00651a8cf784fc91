-- One instruction's list, by where its form has the result id (`list_is`); test 20 says that there are words enough for it. So is
-- its length (`list_length`).
use Prim.Native.Nat.{ℕ, suc, ◌+◌, ◌≤◌}
use mathlib.Core.Path.{◌≡◌, refl}
use mathlib.Core.Bool.{Bool, true, false}
use mathlib.Core.List.{List, [], ◌∷◌}
use native.Mathlib.Omega.{arith}
use lib.ListN.{length}
use Rattle.std.specs.Prelude.{Some}
use Rattle.definition.specs.Reader.{layout_of, split}
use Rattle.definition.specs.Listing.{words_before, list_split, list_body}
use Rattle.definition.proofs.Relisting.{written_says}
use Rattle.listing.specs.declared.forms.Form.{Form}
use Rattle.listing.specs.declared.forms.ResultId.{ResultId}
use Rattle.listing.specs.Forms.{result_as, form_of, id_words}
use Rattle.listing.specs.Lists.{least_body, list_as, ListedWith}
use Rattle.listing.proofs.Layouts.{form_is}

-- by where the result id stands
pub record Shape (i : ResultId) (o : ℕ) (b l : List ℕ) : Type 0 where
  pub enough : least_body i ≤ length b
  pub same : l ≡ list_as i o b
  pub size : length l + id_words i ≡ length b + 3

shape : (t d : Bool) (o : ℕ) (b : List ℕ) → words_before t d ≤ suc (length b) → Shape (result_as t d) o b (list_split (split o t d b))
shape true true o [] h = absurd (omega arith)
shape true true o (x ∷ []) h = absurd (omega arith)
shape true true o (x ∷ (y ∷ xs)) h = record { enough = omega arith; same = refl; size = omega arith }
shape false true o [] h = absurd (omega arith)
shape false true o (x ∷ xs) h = record { enough = omega arith; same = refl; size = omega arith }
shape true false o [] h = absurd (omega arith)
shape true false o (x ∷ xs) h = record { enough = omega arith; same = refl; size = omega arith }
shape false false o b h = record { enough = omega arith; same = refl; size = omega arith }

-- by the form
pub list_shape : (o : ℕ) (f : Form) (b : List ℕ) → Some f ≡ form_of o → ListedWith o b → Shape f.result o b (list_body o b)
list_shape o f b e w =
    let l = layout_of o in
    rw (form_is o f e).form (shape l.typed l.declares o b (written_says o (suc (length b)) w.written).enough)
