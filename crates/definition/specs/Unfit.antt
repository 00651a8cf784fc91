-- Tests 13 and 14: the sentences after "Unfit (13):", and "14 a capability is needed that the rules check for availability,
-- and it is not available". Unfit is document 01's term.
use Rattle.std.specs.Prelude.{ℕ, Bool, true, false, ◌&&◌, ◌||◌, not, List, [], ◌∷◌, eqb, ltb, length}
use Rattle.std.specs.Prelude.{Option, Some, None}
use Rattle.definition.specs.Choice.{pick, unless, among, every, or_else}
use Rattle.definition.specs.Sheet.{TypeInner, TypeEntry, Expression, Global, Entry, function_space, private_space, work_group_space, uniform_space, storage_space, handle_space}
use Rattle.definition.specs.Sheet.{Scalar, Vector, Matrix, Atomic, Pointer, ValuePointer, Array, Struct, Image, Sampler, AccelerationStructure, RayQuery, BindingArray}
use Rattle.definition.specs.Sheet.{Value, Alias, ZeroValue, Compose, Splat, available, remap, type, function, constant, global}
use Rattle.definition.specs.Tests.{Seen, member_types, present}
use Rattle.definition.specs.Zeroable.{zeroable}
use Rattle.definition.specs.Shapes.{Key, Shape, shape_of, kind_of, float, scalar, vector, matrix, pointer, value_pointer, image, sampler, acceleration_structure, ray_query, binding_array, binding_pointer, entry, shape}
use Rattle.definition.specs.State.{State, id_of}
use Rattle.definition.specs.Finding.{capabilities_of}
use Rattle.definition.specs.Rules.{inner_at, value_at, is_bound}

-- ---- "A Compose of anything but a vector, matrix, sized Array or struct, with another count of parts, or a part whose type id
-- is not the place's."

-- the places of a composite's parts: so many of one type, or one for each member, or none
pub data PartPlaces : Type 0 where
  each : ℕ → Key → PartPlaces
  members : List ℕ → PartPlaces
  nowhere : PartPlaces

abbrev pub part_places_of : TypeInner → PartPlaces
part_places_of (Scalar k w) = nowhere
part_places_of (Vector n k w) = each n (shape (scalar (kind_of k w)))
part_places_of (Matrix c r w) = each c (shape (vector r (float w)))
part_places_of (Atomic k w) = nowhere
part_places_of (Pointer b s a) = nowhere
part_places_of (ValuePointer n k w s a) = nowhere
part_places_of (Array b n d) = pick (ltb 0 n) (each n (entry b)) nowhere
part_places_of (Struct n ms) = members (member_types ms)
part_places_of (Image d a c x y) = nowhere
part_places_of (Sampler c) = nowhere
part_places_of AccelerationStructure = nowhere
part_places_of RayQuery = nowhere
part_places_of (BindingArray b n) = nowhere

-- a constant is of the type with a key: their type ids are equal
abbrev pub of_type : State → Key → ℕ → Bool
of_type s k c = eqb (value_at s c).type (or_else 0 (id_of s k))

unfoldable pub members_fit : State → List ℕ → List ℕ → Bool
members_fit s [] [] = true
members_fit s [] (c ∷ cs) = false
members_fit s (t ∷ ts) [] = false
members_fit s (t ∷ ts) (c ∷ cs) = of_type s (entry t) c && members_fit s ts cs

abbrev pub parts_fit : State → PartPlaces → List ℕ → Bool
parts_fit s (each n k) cs = eqb (length cs) n && every (of_type s k) cs
parts_fit s (members ts) cs = members_fit s ts cs
parts_fit s nowhere cs = false

-- ---- constants: "a ZeroValue .. whose type is not zeroable", "A Splat of anything but a literal or a zero of Scalar type,
-- aliases followed."

unfoldable pub constant_fits : List TypeEntry → State → Expression → Bool
constant_fits ts s (Value l) = true
constant_fits ts s (Alias c) = true
constant_fits ts s (ZeroValue t) = zeroable ts t
constant_fits ts s (Compose t cs) = parts_fit s (part_places_of (inner_at ts t)) cs
constant_fits ts s (Splat n c) = present (value_at s c).kind

-- ---- "A global of Function space, or of Pointer or ValuePointer type, or bound outside Uniform, Storage and Handle, or with an
-- init outside Private or of another type id", "a Private or WorkGroup global, whose type is not zeroable"

abbrev pub is_pointer : TypeInner → Bool
is_pointer (Scalar k w) = false
is_pointer (Vector n k w) = false
is_pointer (Matrix c r w) = false
is_pointer (Atomic k w) = false
is_pointer (Pointer b s a) = true
is_pointer (ValuePointer n k w s a) = true
is_pointer (Array b n d) = false
is_pointer (Struct n ms) = false
is_pointer (Image d a c x y) = false
is_pointer (Sampler c) = false
is_pointer AccelerationStructure = false
is_pointer RayQuery = false
is_pointer (BindingArray b n) = false

abbrev pub init_fits : State → Global → Option ℕ → Bool
init_fits s g None = true
init_fits s g (Some c) = eqb g.space private_space && of_type s (entry g.type) c

unfoldable pub global_fits : List TypeEntry → State → Global → Bool
global_fits ts s g =
    not (eqb g.space function_space)
    && (not (is_pointer (inner_at ts g.type))
    && ((not (is_bound g) || among g.space (uniform_space ∷ storage_space ∷ handle_space ∷ []))
    && (init_fits s g g.init
    && (not (among g.space (private_space ∷ work_group_space ∷ [])) || zeroable ts g.type))))

-- "13 unfit"
abbrev pub entry_fits : Seen → State → Entry → Bool
entry_fits n s (available cs) = true
entry_fits n s (remap m) = true
entry_fits n s (type t) = true
entry_fits n s (function f) = true
entry_fits n s (constant e) = constant_fits n.types s e
entry_fits n s (global g) = global_fits n.types s g

-- ---- 14: "all without an availability check" is said of scalars; a repeated shape's capabilities were available at its first

abbrev pub checked_capabilities : Shape → List ℕ
checked_capabilities (scalar k) = []
checked_capabilities (vector n k) = capabilities_of (vector n k)
checked_capabilities (matrix c r w) = capabilities_of (matrix c r w)
checked_capabilities (pointer b c) = capabilities_of (pointer b c)
checked_capabilities (value_pointer n k c) = capabilities_of (value_pointer n k c)
checked_capabilities (image k d p a m s f) = capabilities_of (image k d p a m s f)
checked_capabilities sampler = capabilities_of sampler
checked_capabilities acceleration_structure = capabilities_of acceleration_structure
checked_capabilities ray_query = capabilities_of ray_query
checked_capabilities (binding_array b n) = capabilities_of (binding_array b n)
checked_capabilities (binding_pointer b n s a) = capabilities_of (binding_pointer b n s a)

-- "Without it every capability is available."
abbrev pub is_available : Option (List ℕ) → ℕ → Bool
is_available None c = true
is_available (Some cs) c = among c cs

abbrev pub shape_available : Option (List ℕ) → Option Shape → Bool
shape_available a None = true
shape_available a (Some l) = every (is_available a) (checked_capabilities l)

abbrev pub entry_available : Seen → Entry → Bool
entry_available n (available cs) = true
entry_available n (remap m) = true
entry_available n (type t) = shape_available n.available (shape_of t.inner)
entry_available n (function f) = true
entry_available n (constant e) = true
entry_available n (global g) = true

unfoldable pub fitness_test : Seen → State → Entry → ℕ
fitness_test n s e = unless (entry_fits n s e) 13 (unless (entry_available n e) 14 0)
