-- What `declare_main` prints is read back as the same words: a digit, the digits of a word one after the other, a line, all lines.
-- No text begins with the bytes of the magic number, since its first byte is a digit.
use Prim.Native.Nat.{ℕ, zero, suc, ◌+◌, ◌*◌, ◌-◌, ◌/◌, ◌%◌, ◌^◌, ◌≤◌, ◌<◌}
use mathlib.Core.Path.{◌≡◌, refl, sym, ap, ◌∙◌}
use mathlib.Core.Bool.{Bool, true, false, ◌&&◌}
use mathlib.Core.List.{List, [], ◌∷◌, ◌++◌, append_assoc}
use Rattle.std.specs.Prelude.{Some}
use native.Mathlib.Nat.{pow-suc, mul_assoc, div-add-mod', mod-lt}
use native.Mathlib.Omega.{arith}
use lib.Dec.{leb, ltb, eqb}
use lib.ListN.{length}
use borrow.Author.Tests.{ltb-true, ltb-false, lt-ltb, le-leb, ne_eqb}
use Rattle.definition.specs.Choice.{every}
use Rattle.definition.specs.Reader.{is_word}
use Rattle.printing.specs.Text.{newline, digit_of, digits, line_of, lines_of}
use Rattle.list_main.specs.Answers.{before, digit_in, text_from, text_words, low_first, is_binary, words_most, words_of}
use Rattle.list_main.proofs.Digits.{above, decimal, lower}

-- ---- a digit

-- the byte that is printed for it
pub record DigitByte (d b : ℕ) : Type 0 where
  pub back : digit_in b ≡ d
  pub from : 48 ≤ b
  pub to : b ≤ 102

digit_byte : (d : ℕ) → d < 16 → DigitByte d (digit_of d)
digit_byte d h = by (ltb d 10) refl
  where
    by : (t : Bool) → ltb d 10 ≡ t → DigitByte d (digit_of d)
    by true e =
        let l = ltb-true d 10 e in
        let p : 48 + d - 48 ≡ digit_in (48 + d) = decimal (48 + d) (omega arith) (omega arith) in
        simp e (record { back = omega arith; from = omega arith; to = omega arith })
    by false e =
        let l = ltb-false d 10 e in
        let p : 87 + d - 97 + 10 ≡ digit_in (87 + d) = lower (87 + d) (above 48 57 (87 + d) (omega arith)) (omega arith) (omega arith) in
        simp e (record { back = omega arith; from = omega arith; to = omega arith })

one_back : (m x d b : ℕ) (rest : List ℕ) → d < 16 → digit_in b ≡ d → text_from (suc m) x (b ∷ rest) ≡ text_from m (x * 16 + d) rest
unfolding text_from
one_back m x d b rest h e = simp (e, lt-ltb d 16 h)

-- ---- the digits of a word

digits_back : (k m x w : ℕ) (rest : List ℕ) → w < 16 ^ k → text_from (k + m) x (digits 16 k w ++ rest) ≡ text_from m (x * 16 ^ k + w) rest
unfolding digits
digits_back zero m x w rest h =
    let a : 0 + m ≡ m = omega arith in
    let b : x ≡ x * 16 ^ 0 + w = omega arith in
    ap (λ (j : ℕ). text_from j x rest) a ∙ ap (λ (y : ℕ). text_from m y rest) b
digits_back (suc k) m x w rest h =
    let q = w / 16 in
    let r = w % 16 in
    let y = x * 16 ^ k in
    let a : suc k + m ≡ k + suc m = omega arith in
    let p : 16 ^ suc k ≡ 16 ^ k * 16 = pow-suc 16 k in
    let s : q * 16 + r ≡ w = div-add-mod' w 16 in
    let l : r < 16 = mod-lt w {m = 16} (omega arith) in
    let small : q < 16 ^ k = omega arith in
    let z : x * 16 ^ suc k ≡ y * 16 = ap (λ (n : ℕ). x * n) p ∙ sym (mul_assoc x (16 ^ k) 16) in
    let e : (y + q) * 16 + r ≡ x * 16 ^ suc k + w = omega arith in
    ap (λ (l : List ℕ). text_from (suc k + m) x l) (append_assoc (digits 16 k q) (digit_of r ∷ []) rest)
    ∙ ap (λ (j : ℕ). text_from j x (digits 16 k q ++ (digit_of r ∷ rest))) a
    ∙ digits_back k (suc m) x q (digit_of r ∷ rest) small
    ∙ one_back m (y + q) r (digit_of r) rest l (digit_byte r l).back
    ∙ ap (λ (n : ℕ). text_from m n rest) e

-- ---- lines

line_back : (w : ℕ) (rest : List ℕ) → w < 4294967296 → text_words (line_of w ++ rest) ≡ before (w ∷ []) (text_words rest)
unfolding text_from
line_back w rest h =
    let e : 0 * 16 ^ 8 + w ≡ w = omega arith in
    ap text_words (append_assoc (digits 16 8 w) (newline ∷ []) rest)
    ∙ digits_back 8 0 0 w (newline ∷ rest) (omega arith)
    ∙ ap (λ (n : ℕ). before (n ∷ []) (text_words rest)) e

both : (s t : Bool) → s && t ≡ true → (s ≡ true) × (t ≡ true)
both true t e = (refl, e)
both false t e = let z : ◌≡◌ {A = ℕ} 0 1 = cc in let f : ⊥ = omega arith in elim f [ ]

text_back : (ws : List ℕ) → every is_word ws ≡ true → text_words (lines_of ws) ≡ Some ws
unfolding text_from lines_of
text_back [] h = refl
text_back (w ∷ ws) h =
    let p = both (is_word w) (every is_word ws) h in
    line_back w (lines_of ws) (ltb-true w 4294967296 p.0) ∙ ap (before (w ∷ [])) (text_back ws p.1)

-- ---- a text is not binary

and_false : (t : Bool) → t && false ≡ false
and_false true = refl
and_false false = refl

no_magic : (b : ℕ) (bs : List ℕ) → 48 ≤ b → b ≤ 102 → is_binary (b ∷ bs) ≡ false
no_magic b bs h l =
    let e : eqb (low_first (b ∷ bs)) 119734787 ≡ false = ne_eqb (low_first (b ∷ bs)) 119734787 (λ q. omega arith) in
    simp e (and_false (leb 4 (length (b ∷ bs))))

-- the first byte of a word's digits
digits_first : (k w : ℕ) (rest : List ℕ) → is_binary (digits 16 (suc k) w ++ rest) ≡ false
unfolding digits
digits_first zero w rest = let p = digit_byte (w % 16) (mod-lt w {m = 16} (omega arith)) in no_magic (digit_of (w % 16)) rest p.from p.to
digits_first (suc k) w rest =
    ap is_binary (append_assoc (digits 16 (suc k) (w / 16)) (digit_of (w % 16) ∷ []) rest) ∙ digits_first k (w / 16) (digit_of (w % 16) ∷ rest)

text_first : (ws : List ℕ) → is_binary (lines_of ws) ≡ false
unfolding lines_of
text_first [] = refl
text_first (w ∷ ws) =
    ap is_binary (append_assoc (digits 16 8 w) (newline ∷ []) (lines_of ws)) ∙ digits_first 7 w (newline ∷ lines_of ws)

-- ---- words of 32 bits, no more than the program holds, are read back

pub read_back : (ws : List ℕ) → every is_word ws ≡ true → length ws ≤ words_most → words_of (lines_of ws) ≡ Some ws
read_back ws h l = simp (text_first ws, text_back ws h, le-leb (length ws) words_most l)
