-- A literal of the program as the definition's literal, and a literal's form and bits.
use Rattle.std.specs.Prelude.{ℕ}
use Rattle.std.specs.Float.Ieee.{to_bits}
use Rattle.std.specs.Float.{binary32, binary64}
use Rattle.std.specs.Int.{w32, cast_unsigned, from_bool}
use Rattle.definition.specs.Literals as Defined
use Rattle.definition.specs.Literals.{f64, f32, u32, i32, boolean}
use Rattle.literals.specs.declared.Literal.{Literal}
use Rattle.literals.specs.declared.Literal.TheVariants.{F64, F32, Nan64, Nan32, U32, I32, Bool}

-- a float stands for its pattern, an i32 for its two's complement, a bool for 0 or 1
abbrev pub literal_of : Literal → Defined.Literal
literal_of (F64 x) = f64 (to_bits binary64 x)
literal_of (F32 x) = f32 (to_bits binary32 x)
literal_of (Nan64 n) = f64 n
literal_of (Nan32 n) = f32 n
literal_of (U32 n) = u32 n
literal_of (I32 x) = i32 (cast_unsigned w32 x)
literal_of (Bool b) = boolean (from_bool b)

-- the form byte: 0 F64, 1 F32, 2 U32, 3 I32, 4 Bool
abbrev pub literal_form : Defined.Literal → ℕ
literal_form (f64 n) = 0
literal_form (f32 n) = 1
literal_form (u32 n) = 2
literal_form (i32 n) = 3
literal_form (boolean n) = 4

-- the bits, whatever the form
abbrev pub bits_of : Defined.Literal → ℕ
bits_of (f64 n) = n
bits_of (f32 n) = n
bits_of (u32 n) = n
bits_of (i32 n) = n
bits_of (boolean n) = n
