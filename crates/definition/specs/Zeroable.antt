-- "A type is zeroable when every part under it is: scalars, atomics, vectors and matrices are, a sized Array or a Struct
-- when all inside it is." A part stands before the whole (test 11), so the types are decided in their order.
-- Zeroable is document 01's term.
use Rattle.std.specs.Prelude.{ℕ, Bool, true, false, ◌&&◌, List, [], ◌∷◌, ◌++◌, ltb, get_or}
use Rattle.definition.specs.Choice.{every}
use Rattle.definition.specs.Sheet.{TypeInner, TypeEntry, Scalar, Vector, Matrix, Atomic, Pointer, ValuePointer, Array, Struct, Image, Sampler, AccelerationStructure, RayQuery, BindingArray}
use Rattle.definition.specs.Tests.{member_types}

-- a type, given which of the types before it are
abbrev pub zeroable_over : (ℕ → Bool) → TypeInner → Bool
zeroable_over part (Scalar k w) = true
zeroable_over part (Vector n k w) = true
zeroable_over part (Matrix c r w) = true
zeroable_over part (Atomic k w) = true
zeroable_over part (Pointer b s a) = false
zeroable_over part (ValuePointer n k w s a) = false
zeroable_over part (Array b n d) = ltb 0 n && part b
zeroable_over part (Struct n ms) = every part (member_types ms)
zeroable_over part (Image d a c x y) = false
zeroable_over part (Sampler c) = false
zeroable_over part AccelerationStructure = false
zeroable_over part RayQuery = false
zeroable_over part (BindingArray b n) = false

-- a flag for each type, behind the flags of the types before them
unfoldable pub zeroables : List Bool → List TypeEntry → List Bool
zeroables done [] = done
zeroables done (t ∷ ts) = zeroables (done ++ zeroable_over (λ (j : ℕ). get_or done j false) t.inner ∷ []) ts

unfoldable pub zeroable : List TypeEntry → ℕ → Bool
zeroable ts i = get_or (zeroables [] ts) i false
