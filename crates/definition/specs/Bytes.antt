-- Numbers and names in a list of bytes ("Big-endian."). Past the end a byte reads as 0, so that every field has a
-- value; whether it is there at all is test 8.
use Rattle.std.specs.Prelude.{ℕ, ◌+◌, ◌*◌, List, eqb, get_or, take, drop}
use Rattle.std.specs.Prelude.{Option, Some, None}
use Rattle.definition.specs.Choice.{pick}

abbrev pub u8_at : List ℕ → ℕ → ℕ
u8_at b i = get_or b i 0

unfoldable pub u16_at : List ℕ → ℕ → ℕ
u16_at b i = u8_at b i * 256 + u8_at b (i + 1)

unfoldable pub u32_at : List ℕ → ℕ → ℕ
u32_at b i = u16_at b i * 65536 + u16_at b (i + 2)

unfoldable pub u64_at : List ℕ → ℕ → ℕ
u64_at b i = u32_at b i * 4294967296 + u32_at b (i + 4)

-- "A name is a length byte 0 to 254 and its bytes; 255 means none."
abbrev pub Name : Type 0
Name = Option (List ℕ)

unfoldable pub name_at : List ℕ → ℕ → Name
name_at b i = pick (eqb (u8_at b i) 255) None (Some (take (u8_at b i) (drop (i + 1) b)))

-- where the name that starts at i ends
unfoldable pub name_end : List ℕ → ℕ → ℕ
name_end b i = pick (eqb (u8_at b i) 255) (i + 1) (i + 1 + u8_at b i)
