-- Numbers that fit a word. An instruction's ids are at most the last id taken, its other words have 32 bits: so all its words
-- lie under any bound that both do, and at the end, once the ids are few, under 2^32.
use Prim.Native.Nat.{ℕ, ◌<◌, ◌≤◌}
use mathlib.Core.List.{List, [], ◌∷◌, ◌++◌}
use mathlib.Core.Logic.{◌⊎◌}
use mathlib.Core.Path.{◌≡◌}
use native.Mathlib.Omega.{arith}
use lib.ListN.{length}
use Rattle.definition.specs.Instructions.{Instruction, body}
use Rattle.definition.specs.Shapes.{Kind, Shape, Key, storage_class}
use Rattle.definition.specs.Shapes.{sint, uint, float, bool, one, many, scalar, vector, matrix, pointer, value_pointer, image, sampler, acceleration_structure, ray_query, binding_array, binding_pointer, entry, shape}

-- the largest word
abbrev pub W : ℕ
W = 4294967295

-- every number of a list is at most B
abbrev pub Under : ℕ → List ℕ → Type 0
Under B [] = Unit
Under B (x ∷ xs) = (x ≤ B) × Under B xs

pub under-append : (B : ℕ) (xs ys : List ℕ) → Under B xs → Under B ys → Under B (xs ++ ys)
under-append B [] ys h g = g
under-append B (x ∷ xs) ys h g = (h.0, under-append B xs ys h.1 g)

pub under_more : (A B : ℕ) (xs : List ℕ) → A ≤ B → Under A xs → Under B xs
under_more A B [] l h = tt
under_more A B (x ∷ xs) l h = (omega arith, under_more A B xs l h.1)

-- an instruction whose words fit, given the last id taken
pub record Sized (last : ℕ) (d : Instruction) : Type 0 where
  pub words : (B : ℕ) → W ≤ B → last ≤ B → Under B (body d)
  pub short : length (body d) < 65535

pub sized_up : (a b : ℕ) (d : Instruction) → a ≤ b → Sized a d → Sized b d
sized_up a b d l h = record { words = λ B p q. h.words B p (omega arith); short = h.short }

-- an image's operand Sampled
abbrev pub SampledOrStorage : ℕ → Type 0
SampledOrStorage s = (s ≡ 1) ⊎ (s ≡ 2)

-- a shape whose numbers fit; widths are so small that they fit in bits too
abbrev pub SmallKind : Kind → Type 0
SmallKind (sint w) = w ≤ 255
SmallKind (uint w) = w ≤ 255
SmallKind (float w) = w ≤ 255
SmallKind bool = Unit

abbrev pub SmallShape : Shape → Type 0
SmallShape (scalar k) = SmallKind k
SmallShape (vector n k) = (n ≤ W) × SmallKind k
SmallShape (matrix c r w) = (c ≤ W) × (r ≤ W) × (w ≤ 255)
SmallShape (pointer b c) = c ≤ W
SmallShape (value_pointer one k c) = (c ≤ W) × SmallKind k
SmallShape (value_pointer (many n) k c) = (c ≤ W) × (n ≤ W) × SmallKind k
SmallShape (image k d p a m s f) = SmallKind k × Under W (d ∷ p ∷ a ∷ m ∷ s ∷ f ∷ []) × SampledOrStorage s
SmallShape sampler = Unit
SmallShape acceleration_structure = Unit
SmallShape ray_query = Unit
SmallShape (binding_array b n) = n ≤ W
SmallShape (binding_pointer b n s a) = (n ≤ W) × (storage_class s ≤ W)

abbrev pub SmallKey : Key → Type 0
SmallKey (entry h) = Unit
SmallKey (shape l) = SmallShape l
