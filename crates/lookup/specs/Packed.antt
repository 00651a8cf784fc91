-- A key as one number. Each key's fields are digits: of a scalar's code and six bytes, or of an entry, a size, a space and its
-- access; the last digit, to base 16, says which key it is.
use Rattle.std.specs.Prelude.{ℕ, ◌+◌, ◌*◌, ◌<◌}
use Rattle.definition.specs.Shapes.{Kind, Shape, Key, sint, uint, float, bool, one, many, scalar, vector, matrix, pointer, value_pointer, image, sampler, acceleration_structure, ray_query, binding_array, binding_pointer, entry, shape}

-- a scalar's kind and width as one number; a Bool carries no width
abbrev pub code : Kind → ℕ
code (sint w) = 4 * w
code (uint w) = 1 + 4 * w
code (float w) = 2 + 4 * w
code bool = 3

-- the key whose fields are a scalar's code and six bytes
abbrev pub bytes_key : ℕ → ℕ → ℕ → ℕ → ℕ → ℕ → ℕ → ℕ → ℕ
bytes_key tag k a b c d e f = tag + 16 * (k + 1024 * (a + 256 * (b + 256 * (c + 256 * (d + 256 * (e + 256 * f))))))

-- the key whose fields are an entry, a size, a space and its access
abbrev pub base_key : ℕ → ℕ → ℕ → ℕ → ℕ → ℕ
base_key tag base size space access = tag + 16 * (base + 65536 * (size + 4294967296 * (space + 8 * access)))

-- a shape as one number; fields that it lacks are 0
abbrev pub packed_shape : Shape → ℕ
packed_shape (scalar k) = bytes_key 1 (code k) 0 0 0 0 0 0
packed_shape (vector n k) = bytes_key 2 (code k) n 0 0 0 0 0
packed_shape (matrix c r w) = bytes_key 3 0 c r w 0 0 0
packed_shape (pointer b c) = base_key 4 b c 0 0
packed_shape (value_pointer one k c) = bytes_key 5 (code k) c 0 0 0 0 0
packed_shape (value_pointer (many n) k c) = bytes_key 6 (code k) c n 0 0 0 0
packed_shape (image k d p a m s f) = bytes_key 7 (code k) d p a m s f
packed_shape sampler = 8
packed_shape acceleration_structure = 9
packed_shape ray_query = 10
packed_shape (binding_array b n) = base_key 11 b n 0 0
packed_shape (binding_pointer b n s a) = base_key 12 b n s a

-- a key as one number
abbrev pub packed_key : Key → ℕ
packed_key (entry h) = base_key 0 h 0 0 0
packed_key (shape l) = packed_shape l

-- ---- keys whose fields are digits

-- the fields of a bytes_key are digits
pub record Bytes (k a b c d e f : ℕ) : Type 0 where
  pub small_k : k < 1024
  pub small_a : a < 256
  pub small_b : b < 256
  pub small_c : c < 256
  pub small_d : d < 256
  pub small_e : e < 256
  pub small_f : f < 256

-- the fields of a base_key are digits
pub record SmallBase (base size space access : ℕ) : Type 0 where
  pub small_base : base < 65536
  pub small_size : size < 4294967296
  pub small_space : space < 8
  pub small_access : access < 256

-- a shape's fields are digits
abbrev pub SmallShape : Shape → Type 0
SmallShape (scalar k) = Bytes (code k) 0 0 0 0 0 0
SmallShape (vector n k) = Bytes (code k) n 0 0 0 0 0
SmallShape (matrix c r w) = Bytes 0 c r w 0 0 0
SmallShape (pointer b c) = SmallBase b c 0 0
SmallShape (value_pointer one k c) = Bytes (code k) c 0 0 0 0 0
SmallShape (value_pointer (many n) k c) = Bytes (code k) c n 0 0 0 0
SmallShape (image k d p a m s f) = Bytes (code k) d p a m s f
SmallShape sampler = Unit
SmallShape acceleration_structure = Unit
SmallShape ray_query = Unit
SmallShape (binding_array b n) = SmallBase b n 0 0
SmallShape (binding_pointer b n s a) = SmallBase b n s a

-- a key's fields are digits
abbrev pub Small : Key → Type 0
Small (entry h) = SmallBase h 0 0 0
Small (shape l) = SmallShape l
