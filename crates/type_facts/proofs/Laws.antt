-- What a facet says of a type is what the definition asks of it: a line for each of the thirteen types. Only an image needs a
-- step more, since its facet goes by its class, and a matrix's stride, which goes by its rows and width. Then the wrapper of a type
-- and the spaces that ask for one.
use Prim.Native.Nat.{ℕ, ◌+◌}
use mathlib.Core.Path.{◌≡◌, refl}
use mathlib.Core.Bool.{Bool, true, false}
use mathlib.Core.List.{List, [], ◌∷◌}
use Rattle.std.specs.Prelude.{Option, Some, None}
use lib.Dec.{eqb}
use Rattle.definition.specs.Choice.{pick, among}
use Rattle.definition.specs.Bytes.{u8_at}
use Rattle.definition.specs.Sheet.{Fields, TypeEntry, TypeInner, members_at, type_fields, uniform_space, storage_space, push_constant_space}
use Rattle.definition.specs.Sheet.{Scalar, Vector, Matrix, Atomic, Pointer, ValuePointer, Array, Struct, Image, Sampler, AccelerationStructure, RayQuery, BindingArray}
use Rattle.definition.specs.Rules.{inner_at, column_stride, has_stride, matrix_stride, element_of, is_dynamic, wraps_type, image_access, binding_base}
use Rattle.definition.specs.Unfit.{is_pointer}
use Rattle.definition.proofs.Truth.{pick_for}
use Rattle.kinds.specs.Numbers.{space_number}
use Rattle.kinds.specs.declared.AddressSpace.{AddressSpace}
use Rattle.kinds.specs.declared.AddressSpace.TheVariants.{Function, Private, WorkGroup, Uniform, Storage, Handle, PushConstant}
use Rattle.type_facts.specs.declared.facets.Facet.{Facet}
use Rattle.type_facts.specs.declared.facets.Facet.TheVariants.{StorageImage, Other}
use Rattle.type_facts.specs.Facets.{facet_of, image_facet, dynamic_in, stride_in, access_in, base_in, element_in, pointer_in, wraps_in, wraps_space}

-- ---- facets: a line a type

-- what holds of a storage image and of another image holds of every image
image : (P : Facet → Type 0) (class access : ℕ) → P (StorageImage access) → P Other → P (image_facet class access)
image P class access p q = pick_for P (eqb class 2) (StorageImage access) Other p q

-- a dynamic array
pub dynamic : (i : TypeInner) → is_dynamic i ≡ dynamic_in (facet_of i)
dynamic (Scalar k w) = refl
dynamic (Vector n k w) = refl
dynamic (Matrix c r w) = refl
dynamic (Atomic k w) = refl
dynamic (Pointer b s a) = refl
dynamic (ValuePointer n k w s a) = refl
dynamic (Array b n d) = refl
dynamic (Struct n ms) = refl
dynamic (Image d a c x y) = image (λ (f : Facet). false ≡ dynamic_in f) c y refl refl
dynamic (Sampler c) = refl
dynamic AccelerationStructure = refl
dynamic RayQuery = refl
dynamic (BindingArray b n) = refl

-- a matrix
pub stride : (i : TypeInner) → matrix_stride i ≡ (stride_in (facet_of i))
stride (Scalar k w) = refl
stride (Vector n k w) = refl
stride (Matrix c r w) = go (has_stride r w)
  where
    go : (b : Bool) → pick b (Some (column_stride r w)) None ≡ (pick b (Some (column_stride r w)) None)
    go true = refl
    go false = refl
stride (Atomic k w) = refl
stride (Pointer b s a) = refl
stride (ValuePointer n k w s a) = refl
stride (Array b n d) = refl
stride (Struct n ms) = refl
stride (Image d a c x y) = image (λ (f : Facet). None ≡ (stride_in f)) c y refl refl
stride (Sampler c) = refl
stride AccelerationStructure = refl
stride RayQuery = refl
stride (BindingArray b n) = refl

-- a storage image
pub access : (i : TypeInner) → image_access i ≡ (access_in (facet_of i))
access (Scalar k w) = refl
access (Vector n k w) = refl
access (Matrix c r w) = refl
access (Atomic k w) = refl
access (Pointer b s a) = refl
access (ValuePointer n k w s a) = refl
access (Array b n d) = refl
access (Struct n ms) = refl
access (Image d a c x y) = go (eqb c 2)
  where
    go : (b : Bool) → pick b (Some y) None ≡ (access_in (pick b (StorageImage y) Other))
    go true = refl
    go false = refl
access (Sampler c) = refl
access AccelerationStructure = refl
access RayQuery = refl
access (BindingArray b n) = refl

-- a BindingArray
pub base : (i : TypeInner) → binding_base i ≡ (base_in (facet_of i))
base (Scalar k w) = refl
base (Vector n k w) = refl
base (Matrix c r w) = refl
base (Atomic k w) = refl
base (Pointer b s a) = refl
base (ValuePointer n k w s a) = refl
base (Array b n d) = refl
base (Struct n ms) = refl
base (Image d a c x y) = image (λ (f : Facet). None ≡ (base_in f)) c y refl refl
base (Sampler c) = refl
base AccelerationStructure = refl
base RayQuery = refl
base (BindingArray b n) = refl

-- a Pointer or a ValuePointer
pub pointer : (i : TypeInner) → is_pointer i ≡ pointer_in (facet_of i)
pointer (Scalar k w) = refl
pointer (Vector n k w) = refl
pointer (Matrix c r w) = refl
pointer (Atomic k w) = refl
pointer (Pointer b s a) = refl
pointer (ValuePointer n k w s a) = refl
pointer (Array b n d) = refl
pointer (Struct n ms) = refl
pointer (Image d a c x y) = image (λ (f : Facet). false ≡ pointer_in f) c y refl refl
pointer (Sampler c) = refl
pointer AccelerationStructure = refl
pointer RayQuery = refl
pointer (BindingArray b n) = refl

-- an array's elements are of its base; all else is of itself
abbrev pub element_by : List TypeEntry → TypeInner → Option ℕ → TypeInner
element_by ts i None = i
element_by ts i (Some b) = inner_at ts b

pub element : (ts : List TypeEntry) (i : TypeInner) → element_of ts i ≡ element_by ts i ((element_in (facet_of i)))
element ts (Scalar k w) = refl
element ts (Vector n k w) = refl
element ts (Matrix c r w) = refl
element ts (Atomic k w) = refl
element ts (Pointer b s a) = refl
element ts (ValuePointer n k w s a) = refl
element ts (Array b n d) = refl
element ts (Struct n ms) = refl
element ts (Image d a c x y) = image (λ (f : Facet). Image d a c x y ≡ element_by ts (Image d a c x y) ((element_in f))) c y refl refl
element ts (Sampler c) = refl
element ts AccelerationStructure = refl
element ts RayQuery = refl
element ts (BindingArray b n) = refl

-- a type is wrapped by its facet and, if it is a struct, by its members
pub wraps : (ts : List TypeEntry) (t : ℕ) (b : List ℕ) (n : ℕ)
    → wraps_type ts (type_fields t b n).value ≡ wraps_in ts (facet_of (type_fields t b n).value) (members_at b (n + 5) (u8_at b (n + 4)))
unfolding type_fields
wraps ts t b n =
    let P : Fields TypeInner → Type 0 = λ f. wraps_type ts f.value ≡ wraps_in ts (facet_of f.value) (members_at b (n + 5) (u8_at b (n + 4))) in
    pick_for P (eqb t 16) _ _ refl (pick_for P (eqb t 17) _ _ refl (pick_for P (eqb t 18) _ _ refl (pick_for P (eqb t 19) _ _ refl
    (pick_for P (eqb t 20) _ _ refl (pick_for P (eqb t 21) _ _ refl (pick_for P (eqb t 22) _ _ refl (pick_for P (eqb t 23) _ _ refl
    (pick_for P (eqb t 24) _ _ (image (λ (f : Facet). true ≡ wraps_in ts f (members_at b (n + 5) (u8_at b (n + 4)))) (u8_at b (n + 2)) (u8_at b (n + 4)) refl refl)
    (pick_for P (eqb t 25) _ _ refl (pick_for P (eqb t 26) _ _ refl (pick_for P (eqb t 27) _ _ refl refl)))))))))))

-- ---- a global is wrapped by its space, if its type lets it

pub space : (s : AddressSpace) → among (space_number s) (uniform_space ∷ storage_space ∷ push_constant_space ∷ []) ≡ wraps_space s
space Function = refl
space Private = refl
space WorkGroup = refl
space Uniform = refl
space (Storage a) = refl
space Handle = refl
space PushConstant = refl
