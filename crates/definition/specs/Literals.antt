-- Literals: "form byte 0 F64, 1 F32, 2 U32, 3 I32, 4 Bool"; "Literals carry 64-bit and 32-bit floats with every bit kept
-- and are equal by form and bits." So a literal is its form and its bits, and equality is that of the data.
use Rattle.std.specs.Prelude.{ℕ, ◌/◌, ◌%◌, List, [], ◌∷◌}
use Rattle.std.proofs.Math.Decide.{ℕ_discrete}

pub data Literal : Type 0 where
  f64 : ℕ → Literal
  f32 : ℕ → Literal
  u32 : ℕ → Literal
  i32 : ℕ → Literal
  boolean : ℕ → Literal
  deriving Discrete as Literal-discrete

-- literals are equal by form and bits
unfoldable pub same_literal : Discrete Literal
same_literal = Literal-discrete ℕ_discrete

-- the words of a literal's value, the lowest first; a Bool has none, its opcode says it
abbrev pub literal_words : Literal → List ℕ
literal_words (f64 n) = n % 4294967296 ∷ n / 4294967296 ∷ []
literal_words (f32 n) = n ∷ []
literal_words (u32 n) = n ∷ []
literal_words (i32 n) = n ∷ []
literal_words (boolean n) = []
