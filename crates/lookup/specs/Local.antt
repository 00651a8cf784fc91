-- The program's shapes and what it says of them, as the definition's.
use Rattle.std.specs.Prelude.{ℕ, List, [], ◌∷◌}
use Rattle.std.specs.Prelude.{Option, Some, None, option_map}
use Rattle.definition.specs.Shapes.{Kind, Count, Shape, Key, kind_of, one, many, scalar, vector, matrix, pointer, value_pointer, image, sampler, acceleration_structure, ray_query, binding_array, binding_pointer, entry, shape}
use Rattle.definition.specs.Numbers.{CapabilityFloat16, CapabilityFloat64, CapabilityInt64, CapabilityInt16, CapabilityImageCubeArray, CapabilityInt8, CapabilitySampled1D, CapabilityImage1D, CapabilitySampledCubeArray, CapabilityStorageImageExtendedFormats, CapabilityRayQueryKHR}
use Rattle.kinds.specs.Numbers.{kind_number, space_number, space_access}
use Rattle.lookup.specs.Packed.{bytes_key, Bytes}
use Rattle.lookup.specs.declared.Capability.{Capability}
use Rattle.lookup.specs.declared.Capability.TheVariants.{Float16, Float64, Int64, Int16, ImageCubeArray, Int8, Sampled1D, Image1D, SampledCubeArray, StorageImageExtendedFormats, RayQueryKHR}
use Rattle.lookup.specs.declared.LocalType.{LocalType}
use Rattle.lookup.specs.declared.LocalType.TheVariants.{Value, Matrix, Pointer, Image, Sampler, PointerToBindingArray, BindingArray, AccelerationStructure, RayQuery}
use Rattle.lookup.specs.declared.LookupType.{LookupType}
use Rattle.lookup.specs.declared.LookupType.TheVariants.{Handle, Local}

-- one scalar, or a vector of so many
abbrev pub vector_count : Option ℕ → Count
vector_count None = one
vector_count (Some n) = many n

-- a scalar, a vector, or a pointer to either
abbrev pub value_of : Option ℕ → Kind → Option ℕ → Shape
value_of None k None = scalar k
value_of (Some n) k None = vector n k
value_of z k (Some c) = value_pointer (vector_count z) k c

-- a shape; an image's sampled type is a scalar of width 4
abbrev pub local_shape : LocalType → Shape
local_shape (Value z k w c) = value_of z (kind_of (kind_number k) w) c
local_shape (Matrix c r w) = matrix c r w
local_shape (Pointer b c) = pointer b c
local_shape (Image i) = image (kind_of (kind_number i.kind) 4) i.dim i.depth i.arrayed i.multi i.sampled i.format
local_shape Sampler = sampler
local_shape (PointerToBindingArray b n s) = binding_pointer b n (space_number s) (space_access s)
local_shape (BindingArray b n) = binding_array b n
local_shape AccelerationStructure = acceleration_structure
local_shape RayQuery = ray_query

-- a key
abbrev pub key_of : LookupType → Key
key_of (Handle h) = entry h
key_of (Local l) = shape (local_shape l)

-- a value's key, of its size, its scalar's code and its class
abbrev pub value_key : Option ℕ → ℕ → Option ℕ → ℕ
value_key None k None = bytes_key 1 k 0 0 0 0 0 0
value_key (Some n) k None = bytes_key 2 k n 0 0 0 0 0
value_key None k (Some c) = bytes_key 5 k c 0 0 0 0 0
value_key (Some n) k (Some c) = bytes_key 6 k c n 0 0 0 0

-- the fields of a value's key are digits
abbrev pub SmallValue : Option ℕ → ℕ → Option ℕ → Type 0
SmallValue None k None = Bytes k 0 0 0 0 0 0
SmallValue (Some n) k None = Bytes k n 0 0 0 0 0
SmallValue None k (Some c) = Bytes k c 0 0 0 0 0
SmallValue (Some n) k (Some c) = Bytes k c n 0 0 0 0

-- the Specification's number of a capability
abbrev pub capability_number : Capability → ℕ
capability_number Float16 = CapabilityFloat16
capability_number Float64 = CapabilityFloat64
capability_number Int64 = CapabilityInt64
capability_number Int16 = CapabilityInt16
capability_number ImageCubeArray = CapabilityImageCubeArray
capability_number Int8 = CapabilityInt8
capability_number Sampled1D = CapabilitySampled1D
capability_number Image1D = CapabilityImage1D
capability_number SampledCubeArray = CapabilitySampledCubeArray
capability_number StorageImageExtendedFormats = CapabilityStorageImageExtendedFormats
capability_number RayQueryKHR = CapabilityRayQueryKHR

-- a number, if there is one
abbrev pub one_or_none : Option ℕ → List ℕ
one_or_none None = []
one_or_none (Some n) = n ∷ []

-- a capability that a shape uses, if it uses one
abbrev pub as_list : Option Capability → List ℕ
as_list o = one_or_none (option_map capability_number o)
