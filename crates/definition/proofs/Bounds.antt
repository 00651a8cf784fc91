-- Numbers read from bytes fit, and a name that passes test 9 is packed into words that the reader takes for a string. A packed
-- word is taken apart into its four octets once (`octets_of`); names go by four bytes at a time, as they are packed.
use Prim.Native.Nat.{ℕ, suc, zero, ◌+◌, ◌*◌, ◌/◌, ◌%◌, ◌≤◌}
use mathlib.Core.Path.{◌≡◌, refl, ◌∙◌}
use mathlib.Core.List.{List, [], ◌∷◌}
use Rattle.std.specs.Prelude.{Some, None}
use mathlib.Core.Bool.{Bool, true, false}
use native.Mathlib.Omega.{arith}
use lib.Dec.{T, eqb, leb, leb→le, lit≤}
use lib.ListN.{length, get_or, take, drop, length-take}
use borrow.Author.Tests.{eq-eqb, ne_eqb}
use Rattle.definition.specs.Choice.{pick}
use Rattle.definition.specs.Bytes.{u8_at, u16_at, u32_at, u64_at, name_at}
use Rattle.definition.specs.Utf8.{utf8, no_zero, name_fits}
use Rattle.definition.specs.Instructions.{packed, little_endian}
use Rattle.definition.specs.Reader.{is_zero, full, closing, is_string}
use Rattle.definition.proofs.Truth.{both_true}
use Rattle.definition.proofs.Sizes.{W, Under}
use Rattle.definition.proofs.Marks.{GoodName, Spelled}

-- ---- numbers

pub under_get_or : (B : ℕ) (xs : List ℕ) (i : ℕ) → Under B xs → get_or xs i 0 ≤ B
under_get_or B [] i h = omega arith
under_get_or B (x ∷ xs) zero h = h.0
under_get_or B (x ∷ xs) (suc i) h = under_get_or B xs i h.1

pub under-take : (B n : ℕ) (xs : List ℕ) → Under B xs → Under B (take n xs)
under-take B zero xs h = tt
under-take B (suc n) [] h = tt
under-take B (suc n) (x ∷ xs) h = (h.0, under-take B n xs h.1)

pub under_drop : (B n : ℕ) (xs : List ℕ) → Under B xs → Under B (drop n xs)
under_drop B zero xs h = h
under_drop B (suc n) [] h = tt
under_drop B (suc n) (x ∷ xs) h = under_drop B n xs h.1

module _ (b : List ℕ) (h : Under 255 b) where
  pub u8_small : (i : ℕ) → u8_at b i ≤ 255
  u8_small i = under_get_or 255 b i h

  pub u16_small : (i : ℕ) → u16_at b i ≤ 65535
  unfolding u16_at
  u16_small i = omega (arith, u8_small i, u8_small (i + 1))

  pub u32_small : (i : ℕ) → u32_at b i ≤ W
  unfolding u32_at
  u32_small i = omega (arith, u16_small i, u16_small (i + 2))

  pub u64_small : (i : ℕ) → u64_at b i / 4294967296 ≤ W
  unfolding u64_at
  u64_small i = omega (arith, u32_small i, u32_small (i + 4))

-- ---- four octets of a word

record Octets (a b c d : ℕ) : Type 0 where
  first : little_endian a b c d % 256 ≡ a
  second : little_endian a b c d / 256 % 256 ≡ b
  third : little_endian a b c d / 256 / 256 % 256 ≡ c
  fourth : little_endian a b c d / 256 / 256 / 256 % 256 ≡ d
  rest : little_endian a b c d / 256 ≡ b + 256 * c + 65536 * d
  half : little_endian a b c d / 65536 ≡ c + 256 * d
  fits : little_endian a b c d ≤ W

octets_of : (a b c d : ℕ) → a ≤ 255 → b ≤ 255 → c ≤ 255 → d ≤ 255 → Octets a b c d
octets_of a b c d ha hb hc hd =
    let w = little_endian a b c d in
    let r : w / 256 ≡ b + 256 * c + 65536 * d = omega arith in
    let r₂ : w / 256 / 256 ≡ c + 256 * d = omega arith in
    let r₃ : w / 256 / 256 / 256 ≡ d = omega arith in
    record {
      first = omega arith;
      second = omega arith;
      third = omega arith;
      fourth = omega arith;
      rest = r;
      half = omega arith;
      fits = omega arith;
    }

zero_at : (x y : ℕ) → x ≡ y → y ≡ 0 → is_zero x ≡ true
zero_at x y e f = eq-eqb x 0 (e ∙ f)

not_at : (x y : ℕ) → x ≡ y → 1 ≤ y → is_zero x ≡ false
not_at x y e f = ne_eqb x 0 (λ q. omega arith)

full_word : (a b c d : ℕ) → Octets a b c d → 1 ≤ a → 1 ≤ b → 1 ≤ c → 1 ≤ d → full (little_endian a b c d) ≡ true
full_word a b c d o ha hb hc hd =
    let w = little_endian a b c d in
    rw (not_at (w % 256) a o.first ha, not_at (w / 256 % 256) b o.second hb, not_at (w / 256 / 256 % 256) c o.third hc, not_at (w / 256 / 256 / 256 % 256) d o.fourth hd)

-- ---- packed names

-- none of the bytes is zero
record Nonzero (a : ℕ) (bs : List ℕ) : Type 0 where
  head : 1 ≤ a
  tail : T (no_zero bs)

nonzero : (a : ℕ) (bs : List ℕ) → T (no_zero (a ∷ bs)) → Nonzero a bs
unfolding no_zero
nonzero a bs t = let q = both_true (leb 1 a) (no_zero bs) t in record { head = leb→le 1 a q.0; tail = q.1 }

closing_1 : (a : ℕ) → a ≤ 255 → 1 ≤ a → closing (little_endian a 0 0 0) ≡ true
closing_1 a ha pa =
    let o = octets_of a 0 0 0 ha (omega arith) (omega arith) (omega arith) in
    let w = little_endian a 0 0 0 in
    rw (not_at (w % 256) a o.first pa, zero_at (w / 256 % 256) 0 o.second refl, zero_at (w / 256) 0 o.rest refl)

closing_2 : (a b : ℕ) → a ≤ 255 → b ≤ 255 → 1 ≤ a → 1 ≤ b → closing (little_endian a b 0 0) ≡ true
closing_2 a b ha hb pa pb =
    let o = octets_of a b 0 0 ha hb (omega arith) (omega arith) in
    let w = little_endian a b 0 0 in
    rw (not_at (w % 256) a o.first pa, not_at (w / 256 % 256) b o.second pb, zero_at (w / 256 / 256 % 256) 0 o.third refl, zero_at (w / 65536) 0 o.half refl)

closing_3 : (a b c : ℕ) → a ≤ 255 → b ≤ 255 → c ≤ 255 → 1 ≤ a → 1 ≤ b → 1 ≤ c → closing (little_endian a b c 0) ≡ true
closing_3 a b c ha hb hc pa pb pc =
    let o = octets_of a b c 0 ha hb hc (omega arith) in
    let w = little_endian a b c 0 in
    rw (not_at (w % 256) a o.first pa, not_at (w / 256 % 256) b o.second pb, not_at (w / 256 / 256 % 256) c o.third pc, zero_at (w / 256 / 256 / 256 % 256) 0 o.fourth refl)

-- a full word before a string
string_cons : (w : ℕ) (ws : List ℕ) → full w ≡ true → is_string ws ≡ true → is_string (w ∷ ws) ≡ true
unfolding is_string
string_cons w [] f s = let z : ◌≡◌ {A = ℕ} 0 1 = cc in absurd (omega arith)
string_cons w (v ∷ ws) f s = rw (f, s)

string_packed : (bs : List ℕ) → Under 255 bs → T (no_zero bs) → is_string (packed bs) ≡ true
unfolding packed is_string
string_packed [] u t = refl
string_packed (a ∷ []) u t = closing_1 a u.0 (nonzero a [] t).head
string_packed (a ∷ (b ∷ [])) u t =
    let p = nonzero a (b ∷ []) t in
    let q = nonzero b [] p.tail in
    closing_2 a b u.0 u.1.0 p.head q.head
string_packed (a ∷ (b ∷ (c ∷ []))) u t =
    let p = nonzero a (b ∷ c ∷ []) t in
    let q = nonzero b (c ∷ []) p.tail in
    let r = nonzero c [] q.tail in
    closing_3 a b c u.0 u.1.0 u.1.1.0 p.head q.head r.head
string_packed (a ∷ (b ∷ (c ∷ (d ∷ bs)))) u t =
    let p = nonzero a (b ∷ c ∷ d ∷ bs) t in
    let q = nonzero b (c ∷ d ∷ bs) p.tail in
    let r = nonzero c (d ∷ bs) q.tail in
    let v = nonzero d bs r.tail in
    let o = octets_of a b c d u.0 u.1.0 u.1.1.0 u.1.1.1.0 in
    string_cons (little_endian a b c d) (packed bs) (full_word a b c d o p.head q.head r.head v.head) (string_packed bs u.1.1.1.1 v.tail)

words_packed : (bs : List ℕ) → Under 255 bs → Under W (packed bs)
unfolding packed
words_packed [] u = (lit≤ tt, tt)
words_packed (a ∷ []) u = (omega arith, tt)
words_packed (a ∷ (b ∷ [])) u = (omega arith, tt)
words_packed (a ∷ (b ∷ (c ∷ []))) u = (omega arith, tt)
words_packed (a ∷ (b ∷ (c ∷ (d ∷ bs)))) u = ((octets_of a b c d u.0 u.1.0 u.1.1.0 u.1.1.1.0).fits, words_packed bs u.1.1.1.1)

count_packed : (bs : List ℕ) → 4 * length (packed bs) ≤ length bs + 4
unfolding packed
count_packed [] = lit≤ tt
count_packed (a ∷ []) = lit≤ tt
count_packed (a ∷ (b ∷ [])) = lit≤ tt
count_packed (a ∷ (b ∷ (c ∷ []))) = lit≤ tt
count_packed (a ∷ (b ∷ (c ∷ (d ∷ bs)))) = let h = count_packed bs in omega arith

pub spelled : (bs : List ℕ) → Under 255 bs → length bs ≤ 255 → T (no_zero bs) → Spelled bs
spelled bs u few t = record { string = string_packed bs u t; words = words_packed bs u; short = omega (arith, count_packed bs) }

-- ---- a name of a record

pub name_good : (b : List ℕ) (i : ℕ) → Under 255 b → T (name_fits (name_at b i)) → GoodName (name_at b i)
unfolding name_at
name_good b i u t = go (eqb (u8_at b i) 255) t
  where
    bs : List ℕ
    bs = take (u8_at b i) (drop (i + 1) b)

    go : (c : Bool) → T (name_fits (pick c None (Some (take (u8_at b i) (drop (i + 1) b))))) → GoodName (pick c None (Some (take (u8_at b i) (drop (i + 1) b))))
    go true t = tt
    go false t =
        let xs = take (u8_at b i) (drop (i + 1) b) in
        spelled xs (under-take 255 (u8_at b i) (drop (i + 1) b) (under_drop 255 (i + 1) b u)) (omega (arith, length-take (u8_at b i) (drop (i + 1) b), u8_small b u i)) (both_true (utf8 xs) (no_zero xs) t).1
