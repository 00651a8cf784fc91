-- A type of the program as the definition's type.
use Rattle.std.specs.Prelude.{ℕ, ◌+◌, ◌≡◌, true, List}
use Rattle.definition.specs.Sheet.{members_at, type_fields}
use Rattle.definition.specs.Tests.{inner_fits}
use Rattle.entries.specs.declared.types.TypeInner.{TypeInner}
use Rattle.entries.specs.declared.types.TypeInner.TheVariants.{Scalar, Vector, Matrix, Atomic, Pointer, ValuePointer, Array, Struct, Image, Sampler, AccelerationStructure, RayQuery, BindingArray}
use Rattle.kinds.specs.Numbers.{flag_number, kind_number, space_number, space_access, dimension_number, class_number, class_first, class_second}
use Rattle.definition.specs.Sheet as Defined

-- of the body b, in which the name ends at n: a struct's members stand there
abbrev pub inner_of : List ℕ → ℕ → TypeInner → Defined.TypeInner
inner_of b n (Scalar k w) = Defined.Scalar (kind_number k) w
inner_of b n (Vector s k w) = Defined.Vector s (kind_number k) w
inner_of b n (Matrix c r w) = Defined.Matrix c r w
inner_of b n (Atomic k w) = Defined.Atomic (kind_number k) w
inner_of b n (Pointer t s) = Defined.Pointer t (space_number s) (space_access s)
inner_of b n (ValuePointer z k w s) = Defined.ValuePointer z (kind_number k) w (space_number s) (space_access s)
inner_of b n (Array t z d) = Defined.Array t z d
inner_of b n (Struct z c) = Defined.Struct z (members_at b (n + 5) c)
inner_of b n (Image d a c) = Defined.Image (dimension_number d) (flag_number a) (class_number c) (class_first c) (class_second c)
inner_of b n (Sampler c) = Defined.Sampler (flag_number c)
inner_of b n AccelerationStructure = Defined.AccelerationStructure
inner_of b n RayQuery = Defined.RayQuery
inner_of b n (BindingArray t z) = Defined.BindingArray t z

-- what was taken for the type of tag t is that type, if its fields pass test 10
abbrev pub TypeTaken : ℕ → List ℕ → ℕ → TypeInner → Type 0
TypeTaken t b n i = inner_fits (type_fields t b n).value ≡ true → inner_of b n i ≡ (type_fields t b n).value
