-- The laws of test 14: what a record changes, and what is asked of a shape. A list in two parts is asked part by part (`every_both`),
-- and of what a shape's rules check the flags answer as the definition does (`as_flagged`).
use Prim.Native.Nat.{ℕ}
use mathlib.Core.Path.{◌≡◌, refl, sym, ap, ◌∙◌}
use mathlib.Core.Bool.{Bool, true, ◌&&◌}
use mathlib.Core.List.{List, [], ◌∷◌}
use Rattle.std.specs.Prelude.{Option, Some}
use borrow.Author.Tests.{ne_eqb}
use lib.Dec.{eqb}
use Rattle.definition.specs.Choice.{among, every}
use Rattle.definition.specs.Numbers.{Dim1D, DimCube}
use Rattle.definition.specs.Sheet.{Record, Fields, Entry, TypeInner, tag_rank, entry_of, available_fields, type_fields}
use Rattle.definition.specs.Tests.{Seen, add, add_record}
use Rattle.definition.specs.Shapes.{Shape, scalar, vector, matrix, pointer, value_pointer, image, sampler, acceleration_structure, ray_query, binding_array, binding_pointer}
use Rattle.definition.specs.Shapes.{shape_of as defined_shape}
use Rattle.definition.specs.Finding.{extended_formats, format_capabilities, dim_capabilities}
use Rattle.definition.specs.Unfit.{checked_capabilities, is_available, shape_available}
use Rattle.definition.proofs.Truth.{pick_for}
use Rattle.records.proofs.Chain.{every_both}
use Rattle.availability.specs.declared.Available.{Available}
use Rattle.availability.specs.Flags.{Flagged, flag_of}

-- ---- what a record changes

-- Available's own list takes the place of what was available
pub lists : (n : Seen) (r : Record) → tag_rank r.tag ≡ 1 → (add_record n r).available ≡ Some (available_fields r.body).value
unfolding add_record add entry_of
lists n r e = rw e

-- any other record leaves it
pub keeps : (n : Seen) (r : Record) → (tag_rank r.tag ≡ 1 → ⊥) → (add_record n r).available ≡ n.available
unfolding add_record add entry_of
keeps n r h = rw (ne_eqb _ _ h) (pick_for Kept (eqb q 2) _ _ refl (pick_for Kept (eqb q 3) _ _ refl (pick_for Kept (eqb q 4) _ _ refl (pick_for Kept (eqb q 5) _ _ refl refl))))
  where
    q : ℕ
    q = tag_rank r.tag

    Kept : Fields Entry → Type 0
    Kept f = (add n (tag_rank r.tag) f.value).available ≡ n.available

-- ---- the flags answer as the definition does

-- of these capabilities
abbrev Same : Option (List ℕ) → Available → List ℕ → Type 0
Same o a xs = every (flag_of a) xs ≡ every (is_available o) xs

module _ (o : Option (List ℕ)) (a : Available) (f : Flagged o a) where
  one : (x : ℕ) → flag_of a x ≡ is_available o x → Same o a (x ∷ [])
  one x e = ap (λ (t : Bool). t && true) e

  of_format : (x : ℕ) → Same o a (format_capabilities x)
  unfolding format_capabilities
  of_format x = pick_for (Same o a) (among x extended_formats) _ _ (one _ f.storage_image_extended_formats) refl

  of_dim : (d y s : ℕ) → Same o a (dim_capabilities d y s)
  unfolding dim_capabilities
  of_dim d y s =
      pick_for (Same o a) (eqb d Dim1D) _ _ (pick_for (Same o a) (eqb s 1) _ _ (one _ f.sampled_1d) (one _ f.image_1d))
      (pick_for (Same o a) (eqb d DimCube && eqb y 1) _ _ (pick_for (Same o a) (eqb s 1) _ _ (one _ f.sampled_cube_array) (one _ f.image_cube_array))
      refl)

  -- of all that a shape's rules check
  pub as_flagged : (l : Shape) → Same o a (checked_capabilities l)
  as_flagged (scalar k) = refl
  as_flagged (vector n k) = refl
  as_flagged (matrix c r w) = refl
  as_flagged (pointer b c) = refl
  as_flagged (value_pointer n k c) = refl
  as_flagged (image k d p y m s x) = every_both (flag_of a) (format_capabilities x) (dim_capabilities d y s) ∙ (λ i. of_format x i && of_dim d y s i) ∙ sym (every_both (is_available o) (format_capabilities x) (dim_capabilities d y s))
  as_flagged sampler = refl
  as_flagged acceleration_structure = one _ f.ray_query_khr
  as_flagged ray_query = one _ f.ray_query_khr
  as_flagged (binding_array b n) = refl
  as_flagged (binding_pointer b n s y) = refl

-- ---- tags

-- of a type that is no image, no acceleration structure and no ray query nothing is checked
pub unchecked : (t : ℕ) → (t ≡ 24 → ⊥) → (t ≡ 26 → ⊥) → (t ≡ 27 → ⊥) → (o : Option (List ℕ)) (b : List ℕ) (n : ℕ) → shape_available o (defined_shape (type_fields t b n).value) ≡ true
unfolding type_fields
unchecked t f g h o b n =
    let P : Fields TypeInner → Type 0 = λ x. shape_available o (defined_shape x.value) ≡ true in
    rw (ne_eqb t 24 f, ne_eqb t 26 g, ne_eqb t 27 h)
    (pick_for P (eqb t 16) _ _ refl (pick_for P (eqb t 17) _ _ refl (pick_for P (eqb t 18) _ _ refl (pick_for P (eqb t 19) _ _ refl
    (pick_for P (eqb t 20) _ _ refl (pick_for P (eqb t 21) _ _ refl (pick_for P (eqb t 22) _ _ refl (pick_for P (eqb t 23) _ _ refl
    (pick_for P (eqb t 25) _ _ refl refl)))))))))
