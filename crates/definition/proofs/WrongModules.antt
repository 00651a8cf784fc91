-- Demand 3 says something: wrong modules that it turns down, each by the clause meant for it, and a name that has no reading
-- without its closing zero.
use Prim.Native.Nat.{ℕ}
use mathlib.Core.Path.{◌≡◌, refl, sym, ◌∙◌}
use mathlib.Core.Bool.{true, false}
use mathlib.Core.List.Memᴰ
use mathlib.Core.List.{List, [], ◌∷◌}
use Rattle.std.specs.Prelude.{Option, Some, None}
use native.Mathlib.Decide.{ℕ_discrete}
use native.Mathlib.Omega.{arith}
use lib.Dec.{T, lit<}
use Rattle.definition.specs.Instructions.{Instruction, capability, type_void, type_float, type_int, type_vector, type_matrix, type_image, type_struct, type_function, decorate, member_decorate}
use Rattle.definition.specs.Numbers.{CapabilityFloat16, CapabilityFloat64, CapabilityInt8, CapabilitySampled1D, CapabilityImage1D, CapabilityStorageImageExtendedFormats, DecorationBlock, DecorationArrayStride, DecorationOffset, Dim1D, Dim2D, ImageFormatUnknown, ImageFormatR32f, ImageFormatRg32f}
use Rattle.definition.specs.Reader.{uses, read_module, read_all, is_string}
use Rattle.definition.specs.ReadTypes.{declaration_of, read_scalar, read_vector, read_type, read_void, read_function}
use Rattle.definition.specs.Shapes.{Key, Shape, entry, scalar, matrix, image, sint, uint, float, kind_of, image_of, shape_of, same_key}
use Rattle.definition.specs.Sheet.{TypeInner, TypeEntry, Function, Scalar, Atomic, Matrix, Image}
use Rattle.definition.specs.State.{Composite, function, void, same_numbers, same_composite, State, occurrences, lookup, entry_ids}
use Rattle.definition.specs.WellDeclared.{WellDeclared, EntriesDeclared, FunctionsDeclared, plain_entry, times, targets, target_of, needs, needed, listed_in, listed_by, carried}

-- numbers handed out for entries that are not declared
missing : WellDeclared 0 2 [] → ⊥
unfolding times
missing h = omega (arith, h.each_once 1 (lit< tt) (lit< tt))

-- one id twice
twice : WellDeclared 0 2 (type_float 1 32 ∷ type_float 1 64 ∷ []) → ⊥
unfolding times
twice h = omega (arith, h.each_once 1 (lit< tt) (lit< tt))

-- an id above the bound
outside : WellDeclared 0 2 (type_float 1 32 ∷ type_int 5 32 0 ∷ []) → ⊥
unfolding times
outside h = omega (arith, (h.no_other 5 (omega arith)).1)

-- a vector above its scalar
early : WellDeclared 0 3 (type_vector 1 2 3 ∷ type_float 2 32 ∷ []) → ⊥
unfolding times uses
early h = omega (arith, h.above.0 tt 2 (Memᴰ.head refl))

-- one type under two ids
one_type_twice : WellDeclared 0 3 (type_float 1 32 ∷ type_float 2 32 ∷ []) → ⊥
one_type_twice h = h.no_equal_types.0 (type_float 2 32) (Memᴰ.head refl) (record { plain = tt; opcode = refl; operands = refl })

-- void under two ids (paper 2)
two_voids : WellDeclared 0 3 (type_void 1 ∷ type_void 2 ∷ []) → ⊥
two_voids h = h.no_equal_types.0 (type_void 2) (Memᴰ.head refl) (record { plain = tt; opcode = refl; operands = refl })

-- one function type under two ids
one_function_twice : WellDeclared 0 4 (type_void 1 ∷ type_function 2 (1 ∷ []) ∷ type_function 3 (1 ∷ []) ∷ []) → ⊥
one_function_twice h = h.no_equal_types.1.0 (type_function 3 (1 ∷ [])) (Memᴰ.head refl) (record { plain = tt; opcode = refl; operands = refl })

-- a function type above its return type, and one above its last parameter's type
early_function : WellDeclared 0 3 (type_function 1 (2 ∷ []) ∷ type_void 2 ∷ []) → ⊥
unfolding times uses
early_function h = omega (arith, h.above.0 tt 2 (Memᴰ.head refl))

early_parameter : WellDeclared 0 4 (type_void 1 ∷ type_function 2 (1 ∷ 3 ∷ []) ∷ type_float 3 32 ∷ []) → ⊥
unfolding times uses
early_parameter h = omega (arith, h.above.1.0 tt 3 (Memᴰ.tail (Memᴰ.head refl)))

-- Int8 is not listed
unlisted : WellDeclared 0 2 (type_int 1 8 1 ∷ []) → ⊥
unfolding occurrences needs needed listed_in listed_by
unlisted h = omega (arith, h.capabilities CapabilityInt8)

-- Int8 is listed, and nothing needs it
needless : WellDeclared 0 2 (capability CapabilityInt8 ∷ type_float 1 32 ∷ []) → ⊥
unfolding occurrences needs needed listed_in listed_by
needless h = omega (arith, h.capabilities CapabilityInt8)

-- Float16 is not listed for a 16-bit float (paper 1), or Float64 is in its place, or a 32-bit float has it
half_unlisted : WellDeclared 0 2 (type_float 1 16 ∷ []) → ⊥
unfolding occurrences needs needed listed_in listed_by
half_unlisted h = omega (arith, h.capabilities CapabilityFloat16)

double_for_half : WellDeclared 0 2 (capability CapabilityFloat64 ∷ type_float 1 16 ∷ []) → ⊥
unfolding occurrences needs needed listed_in listed_by
double_for_half h = omega (arith, h.capabilities CapabilityFloat64)

half_needless : WellDeclared 0 2 (capability CapabilityFloat16 ∷ type_float 1 32 ∷ []) → ⊥
unfolding occurrences needs needed listed_in listed_by
half_needless h = omega (arith, h.capabilities CapabilityFloat16)

-- a decoration on an id that nothing declares
stray : WellDeclared 0 2 (decorate 9 DecorationArrayStride (16 ∷ []) ∷ type_float 1 32 ∷ []) → ⊥
unfolding times targets target_of
stray h = omega (arith, h.on_declared 9 (Memᴰ.head refl))

-- Block twice on one id (paper 5), and two offsets of one member
block_twice : WellDeclared 0 2 (decorate 1 DecorationBlock [] ∷ decorate 1 DecorationBlock [] ∷ type_struct 1 [] ∷ []) → ⊥
unfolding carried
block_twice h = omega (arith, h.no_repeats 1 DecorationBlock)

two_offsets : WellDeclared 0 3 (member_decorate 2 0 DecorationOffset (0 ∷ []) ∷ member_decorate 2 0 DecorationOffset (4 ∷ []) ∷ type_float 1 32 ∷ type_struct 2 (1 ∷ []) ∷ []) → ⊥
unfolding carried
two_offsets h = omega (arith, h.no_member_repeats 2 0 DecorationOffset)

-- ---- entries, and the ids that a state has for them

abbrev unnamed : TypeInner → TypeEntry
unnamed t = record { source = record { tag = 0; body = [] }; name = None; inner = t }

abbrev sharing : List (Key × ℕ) → List (Composite × ℕ) → State
sharing ks cs = record { last = 2; types = ks; constants = record { literals = []; composites = cs; nulls = []; values = [] }; capabilities = []; names = []; annotations = []; declarations = [] }

abbrev entered : List (Key × ℕ) → State
entered ks = sharing ks []

-- two entries of one shape under two ids
two_ids : (is : List Instruction) → EntriesDeclared (unnamed (Scalar 2 4) ∷ unnamed (Atomic 2 4) ∷ []) (entered ((entry 0, 1) ∷ (entry 1, 2) ∷ [])) is → ⊥
unfolding lookup same_key kind_of ℕ_discrete
two_ids is h =
    let e : ◌≡◌ {A = ℕ} 1 2 = (h.shared 0 1 (scalar (float 4)) (scalar (float 4)) 1 2 (unnamed (Scalar 2 4), refl, tt, refl) (unnamed (Atomic 2 4), refl, tt, refl) refl refl).1 refl in
    omega arith

-- entries whose shape the words do not declare; what the reader finds in their place is another shape
module _ (t : TypeInner) (l m : Shape) (is : List Instruction) (shaped : shape_of t ≡ Some l) (plain : T (plain_entry t)) (found : read_type is 1 ≡ Some m) where
  other_shape : EntriesDeclared (unnamed t ∷ []) (entered ((entry 0, 1) ∷ [])) is → l ≡ m
  unfolding lookup same_key ℕ_discrete
  other_shape h =
      let q = h.declared 0 l (unnamed t, refl, plain, shaped) in
      let e : Some 1 ≡ Some q.0 = q.1 in
      let i : 1 ≡ q.0 = cc in
      let f : read_type is 1 ≡ Some l = rw (← i) at q.2 in
      let g : Some l ≡ Some m = sym f ∙ found in
      cc

-- 64 bits in place of 32
other_width : EntriesDeclared (unnamed (Scalar 2 4) ∷ []) (entered ((entry 0, 1) ∷ [])) (type_float 1 64 ∷ []) → ⊥
unfolding kind_of read_type declaration_of
other_width h = let e : scalar (float 4) ≡ scalar (float 8) = other_shape (Scalar 2 4) (scalar (float 4)) (scalar (float 8)) (type_float 1 64 ∷ []) refl tt refl h in let z : ◌≡◌ {A = ℕ} 4 8 = cc in omega arith

-- unsigned in place of signed
other_sign : EntriesDeclared (unnamed (Scalar 0 4) ∷ []) (entered ((entry 0, 1) ∷ [])) (type_int 1 32 0 ∷ []) → ⊥
unfolding kind_of read_type declaration_of
other_sign h = let e : scalar (sint 4) ≡ scalar (uint 4) = other_shape (Scalar 0 4) (scalar (sint 4)) (scalar (uint 4)) (type_int 1 32 0 ∷ []) refl tt refl h in let z : ◌≡◌ {A = ℕ} 0 1 = cc in omega arith

-- two columns of three rows in place of three columns of two
columns_for_rows : EntriesDeclared (unnamed (Matrix 3 2 4) ∷ []) (entered ((entry 0, 1) ∷ [])) (type_float 3 32 ∷ type_vector 2 3 3 ∷ type_matrix 1 2 2 ∷ []) → ⊥
unfolding read_type read_vector read_scalar declaration_of
columns_for_rows h =
    let e : matrix 3 2 4 ≡ matrix 2 3 4 = other_shape (Matrix 3 2 4) (matrix 3 2 4) (matrix 2 3 4) (type_float 3 32 ∷ type_vector 2 3 3 ∷ type_matrix 1 2 2 ∷ []) refl tt refl h in
    let z : ◌≡◌ {A = ℕ} 3 2 = cc in omega arith

-- a multisampled image in place of a depth image
multisampled_for_depth : EntriesDeclared (unnamed (Image 1 0 1 0 0) ∷ []) (entered ((entry 0, 1) ∷ [])) (type_float 2 32 ∷ type_image 1 2 Dim2D 0 0 1 1 ImageFormatUnknown ∷ []) → ⊥
unfolding image_of read_type read_scalar declaration_of
multisampled_for_depth h =
    let e : image (float 4) Dim2D 1 0 0 1 ImageFormatUnknown ≡ image (float 4) Dim2D 0 0 1 1 ImageFormatUnknown = other_shape (Image 1 0 1 0 0) (image (float 4) Dim2D 1 0 0 1 ImageFormatUnknown) (image (float 4) Dim2D 0 0 1 1 ImageFormatUnknown) (type_float 2 32 ∷ type_image 1 2 Dim2D 0 0 1 1 ImageFormatUnknown ∷ []) refl tt refl h in
    let z : ◌≡◌ {A = ℕ} 1 0 = cc in omega arith

-- ---- function records, and the ids that a state has for them (paper 2)

abbrev returning : Option ℕ → List ℕ → Function
returning t ps = record { result = t; parameters = ps }

-- a record that takes a float is declared without its parameter
no_parameter : FunctionsDeclared (returning (Some 0) (0 ∷ []) ∷ []) (sharing ((entry 0, 1) ∷ []) ((function (1 ∷ 1 ∷ []), 2) ∷ [])) (type_float 1 32 ∷ type_function 2 (1 ∷ []) ∷ []) → ⊥
unfolding lookup same_key same_composite same_numbers ℕ_discrete entry_ids read_function declaration_of
no_parameter h =
    let q = h.declared (returning (Some 0) (0 ∷ [])) (Memᴰ.head refl) in
    let e : Some 2 ≡ Some q.0 = q.1 in
    let i : 2 ≡ q.0 = cc in
    let f : ◌≡◌ {A = Option (List ℕ)} (Some (1 ∷ [])) (Some (1 ∷ 1 ∷ [])) = rw (← i) at q.2 in
    let z : ◌≡◌ {A = ℕ} 0 1 = cc in omega arith

-- two records of other types have one id
one_id_for_two : FunctionsDeclared (returning (Some 0) [] ∷ returning (Some 0) (0 ∷ []) ∷ []) (sharing ((entry 0, 1) ∷ []) ((function (1 ∷ []), 2) ∷ (function (1 ∷ 1 ∷ []), 2) ∷ [])) (type_float 1 32 ∷ type_function 2 (1 ∷ []) ∷ []) → ⊥
unfolding lookup same_key same_composite same_numbers ℕ_discrete entry_ids
one_id_for_two h =
    let e : ◌≡◌ {A = List ℕ} (1 ∷ []) (1 ∷ 1 ∷ []) = (h.shared (returning (Some 0) []) (returning (Some 0) (0 ∷ [])) 2 2 (Memᴰ.head refl) (Memᴰ.tail (Memᴰ.head refl)) refl refl).0 refl in
    let z : ◌≡◌ {A = ℕ} 0 1 = cc in omega arith

-- what a record returns for void is a float
float_for_void : FunctionsDeclared (returning None [] ∷ []) (sharing [] ((void, 1) ∷ (function (1 ∷ []), 2) ∷ [])) (type_float 1 32 ∷ type_function 2 (1 ∷ []) ∷ []) → ⊥
unfolding lookup same_composite read_void declaration_of
float_for_void h = let e : false ≡ true = h.returns_void (returning None []) (Memᴰ.head refl) refl in let z : ◌≡◌ {A = ℕ} 0 1 = cc in omega arith

-- void is declared, and no record returns it
void_needless : (s : State) → FunctionsDeclared [] s (type_void 1 ∷ []) → ⊥
unfolding read_void declaration_of
void_needless s h = Memᴰ.not-nil (h.void_returned 1 refl).1

-- ---- capabilities of images: a 1D storage image needs Image1D, and Rg32f StorageImageExtendedFormats

sampled_for_storage : WellDeclared 0 3 (capability CapabilitySampled1D ∷ type_float 1 32 ∷ type_image 2 1 Dim1D 0 0 0 2 ImageFormatR32f ∷ []) → ⊥
unfolding occurrences needs needed listed_in listed_by
sampled_for_storage h = omega (arith, h.capabilities CapabilityImage1D)

format_unlisted : WellDeclared 0 3 (type_float 1 32 ∷ type_image 2 1 Dim2D 0 0 0 2 ImageFormatRg32f ∷ []) → ⊥
unfolding occurrences needs needed listed_in listed_by
format_unlisted h = omega (arith, h.capabilities CapabilityStorageImageExtendedFormats)

-- a name without its closing zero has no reading; with it, it has one
unclosed : read_module (0x07230203 ∷ 0x00010300 ∷ 28 ∷ 2 ∷ 0 ∷ 0x00030005 ∷ 1 ∷ 0x64636261 ∷ 0x00030016 ∷ 1 ∷ 32 ∷ []) ≡ None
unfolding read_module read_all is_string
unclosed = refl

closed : read_module (0x07230203 ∷ 0x00010300 ∷ 28 ∷ 2 ∷ 0 ∷ 0x00040005 ∷ 1 ∷ 0x64636261 ∷ 0 ∷ 0x00030016 ∷ 1 ∷ 32 ∷ [])
    ≡ Some (record { version = 0x00010300; generator = 28; bound = 2; instructions = record { opcode = 5; type = None; result = None; operands = 1 ∷ 0x64636261 ∷ 0 ∷ [] } ∷ type_float 1 32 ∷ [] })
unfolding read_module read_all is_string
closed = refl
