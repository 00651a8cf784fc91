-- One number for each key: the digits give the key back. `key_from` reads a number's last digit, to base 16, which says what the
-- other digits are, and takes those in turn; for every key whose fields are digits (`Small`) it undoes `packed_key` (`back`), a line
-- for each shape. So equal numbers are of equal keys, and comparing numbers decides what the definition's `same_key` decides.
use Prim.Native.Nat.{ℕ, ◌+◌, ◌*◌, ◌/◌, ◌%◌, ◌<◌}
use mathlib.Core.Path.{◌≡◌, refl, sym, ap, ◌∙◌}
use mathlib.Core.Bool.{Bool, true, false}
use native.Mathlib.Omega.{arith}
use native.Mathlib.Nat.{add-mul-mod_self_left, add-mul-div_left, mod-eq_of_lt, div-eq_of_lt, zero-add}
use lib.Dec.{eqb}
use Rattle.definition.specs.Choice.{pick}
use Rattle.definition.specs.Shapes.{Kind, Shape, Key, sint, uint, float, bool, one, many, scalar, vector, matrix, pointer, value_pointer, image, sampler, acceleration_structure, ray_query, binding_array, binding_pointer, entry, shape}
use Rattle.lookup.specs.Packed.{code, bytes_key, base_key, packed_shape, packed_key, Bytes, SmallBase, SmallShape, Small}

-- ---- the key of a number

-- a scalar of its code
abbrev kind_from : ℕ → Kind
kind_from n = pick (eqb (n % 4) 0) (sint (n / 4)) (pick (eqb (n % 4) 1) (uint (n / 4)) (pick (eqb (n % 4) 2) (float (n / 4)) bool))

-- the shape with last digit t whose fields are a code and six bytes
abbrev by_bytes : ℕ → ℕ → ℕ → ℕ → ℕ → ℕ → ℕ → ℕ → Shape
by_bytes t k a b c d e f =
    pick (eqb t 1) (scalar (kind_from k)) (pick (eqb t 2) (vector a (kind_from k)) (pick (eqb t 3) (matrix a b c)
    (pick (eqb t 5) (value_pointer one (kind_from k) a) (pick (eqb t 6) (value_pointer (many b) (kind_from k) a) (image (kind_from k) a b c d e f)))))

-- the key with last digit t whose fields are an entry, a size, a space and its access, or that has none
abbrev by_base : ℕ → ℕ → ℕ → ℕ → ℕ → Key
by_base t b n s a =
    pick (eqb t 0) (entry b) (pick (eqb t 4) (shape (pointer b n)) (pick (eqb t 11) (shape (binding_array b n)) (pick (eqb t 12) (shape (binding_pointer b n s a))
    (pick (eqb t 8) (shape sampler) (pick (eqb t 9) (shape acceleration_structure) (shape ray_query))))))

-- whether the last digit t is one of those
abbrev of_base : ℕ → Bool
of_base t = pick (eqb t 0) true (pick (eqb t 4) true (pick (eqb t 8) true (pick (eqb t 9) true (pick (eqb t 10) true (pick (eqb t 11) true (eqb t 12))))))

-- either, of the digits before the last
abbrev from_base : ℕ → ℕ → Key
from_base t q = by_base t (q % 65536) (q / 65536 % 4294967296) (q / 65536 / 4294967296 % 8) (q / 65536 / 4294967296 / 8)

abbrev from_bytes : ℕ → ℕ → Shape
from_bytes t q =
    by_bytes t (q % 1024) (q / 1024 % 256) (q / 1024 / 256 % 256) (q / 1024 / 256 / 256 % 256) (q / 1024 / 256 / 256 / 256 % 256)
    (q / 1024 / 256 / 256 / 256 / 256 % 256) (q / 1024 / 256 / 256 / 256 / 256 / 256)

pub key_from : ℕ → Key
key_from n = pick (of_base (n % 16)) (from_base (n % 16) (n / 16)) (shape (from_bytes (n % 16) (n / 16)))

kind_back : (k : Kind) → kind_from (code k) ≡ k
kind_back (sint w) = let m : code (sint w) % 4 ≡ 0 = omega arith in let d : code (sint w) / 4 ≡ w = omega arith in rw (m, d)
kind_back (uint w) = let m : code (uint w) % 4 ≡ 1 = omega arith in let d : code (uint w) / 4 ≡ w = omega arith in rw (m, d)
kind_back (float w) = let m : code (float w) % 4 ≡ 2 = omega arith in let d : code (float w) / 4 ≡ w = omega arith in rw (m, d)
kind_back bool = refl

-- ---- the digits

-- the last digit to a base, and what stands before it
digit : (base x y : ℕ) → x < base → ((x + base * y) % base ≡ x) × ((x + base * y) / base ≡ y)
digit base x y h =
    (add-mul-mod_self_left x base y ∙ mod-eq_of_lt h, add-mul-div_left x y (omega arith) ∙ ap (λ (q : ℕ). q + y) (div-eq_of_lt h) ∙ zero-add y)

bytes_back : (t k a b c d e f : ℕ) → t < 16 → of_base t ≡ false → Bytes k a b c d e f → key_from (bytes_key t k a b c d e f) ≡ shape (by_bytes t k a b c d e f)
unfolding key_from
bytes_back t k a b c d e f st nb h =
    let p0 = digit 16 t (k + 1024 * (a + 256 * (b + 256 * (c + 256 * (d + 256 * (e + 256 * f)))))) st in
    let p1 = digit 1024 k (a + 256 * (b + 256 * (c + 256 * (d + 256 * (e + 256 * f))))) h.small_k in
    let p2 = digit 256 a (b + 256 * (c + 256 * (d + 256 * (e + 256 * f)))) h.small_a in
    let p3 = digit 256 b (c + 256 * (d + 256 * (e + 256 * f))) h.small_b in
    let p4 = digit 256 c (d + 256 * (e + 256 * f)) h.small_c in
    let p5 = digit 256 d (e + 256 * f) h.small_d in
    let p6 = digit 256 e f h.small_e in
    simp (p0.0, p0.1, p1.0, p1.1, p2.0, p2.1, p3.0, p3.1, p4.0, p4.1, p5.0, p5.1, p6.0, p6.1, nb)

base_back : (t b n s a : ℕ) → t < 16 → of_base t ≡ true → SmallBase b n s a → key_from (base_key t b n s a) ≡ by_base t b n s a
unfolding key_from
base_back t b n s a st nb h =
    let p0 = digit 16 t (b + 65536 * (n + 4294967296 * (s + 8 * a))) st in
    let p1 = digit 65536 b (n + 4294967296 * (s + 8 * a)) h.small_base in
    let p2 = digit 4294967296 n (s + 8 * a) h.small_size in
    let p3 = digit 8 s a h.small_space in
    simp (p0.0, p0.1, p1.0, p1.1, p2.0, p2.1, p3.0, p3.1, nb)

-- the key of a shape without fields is its last digit alone
no_digits : SmallBase 0 0 0 0
no_digits = record { small_base = omega arith; small_size = omega arith; small_space = omega arith; small_access = omega arith }

shape_back : (l : Shape) → SmallShape l → key_from (packed_shape l) ≡ shape l
shape_back (scalar k) h = bytes_back 1 (code k) 0 0 0 0 0 0 (omega arith) refl h ∙ ap (λ (x : Kind). shape (scalar x)) (kind_back k)
shape_back (vector n k) h = bytes_back 2 (code k) n 0 0 0 0 0 (omega arith) refl h ∙ ap (λ (x : Kind). shape (vector n x)) (kind_back k)
shape_back (matrix c r w) h = bytes_back 3 0 c r w 0 0 0 (omega arith) refl h
shape_back (pointer b c) h = base_back 4 b c 0 0 (omega arith) refl h
shape_back (value_pointer one k c) h = bytes_back 5 (code k) c 0 0 0 0 0 (omega arith) refl h ∙ ap (λ (x : Kind). shape (value_pointer one x c)) (kind_back k)
shape_back (value_pointer (many n) k c) h = bytes_back 6 (code k) c n 0 0 0 0 (omega arith) refl h ∙ ap (λ (x : Kind). shape (value_pointer (many n) x c)) (kind_back k)
shape_back (image k d p a m s f) h = bytes_back 7 (code k) d p a m s f (omega arith) refl h ∙ ap (λ (x : Kind). shape (image x d p a m s f)) (kind_back k)
shape_back sampler h = base_back 8 0 0 0 0 (omega arith) refl no_digits
shape_back acceleration_structure h = base_back 9 0 0 0 0 (omega arith) refl no_digits
shape_back ray_query h = base_back 10 0 0 0 0 (omega arith) refl no_digits
shape_back (binding_array b n) h = base_back 11 b n 0 0 (omega arith) refl h
shape_back (binding_pointer b n s a) h = base_back 12 b n s a (omega arith) refl h

pub back : (k : Key) → Small k → key_from (packed_key k) ≡ k
back (entry i) h = base_back 0 i 0 0 0 (omega arith) refl h
back (shape l) h = shape_back l h

-- equal numbers, equal keys
pub injective : (a b : Key) → Small a → Small b → packed_key a ≡ packed_key b → a ≡ b
injective a b ha hb e = sym (back a ha) ∙ ap key_from e ∙ back b hb
