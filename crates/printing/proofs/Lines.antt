-- Digits, a word's line and the lines of words, as runs of stores, and how long they are.
use Prim.Native.Nat.{ℕ, zero, suc, ◌+◌, ◌*◌, ◌/◌, ◌%◌, ◌≤◌, ◌<◌}
use mathlib.Core.Path.{◌≡◌, refl, sym, ap, ◌∙◌, subst}
use mathlib.Core.List.{List, [], ◌∷◌, ◌++◌, append_assoc, append-nil}
use native.Mathlib.Numerals.{add-one}
use native.Mathlib.Omega.{arith}
use lib.ListN.{length, get_or, take, set, length-append}
use lib.Seq.{sets, take-suc, length-take-le}
use Rattle.std.proofs.Math.Seq.{take-length}
use Rattle.printing.specs.Text.{newline, digit_of, digits, line_of, lines_of, digit_count, refused_text, refusal_of, PutText, Printed}
use Rattle.printing.proofs.Runs.{sets-append, behind, ahead, printed}

-- ---- digits

pub digits-length : (base k n : ℕ) → length (digits base k n) ≡ k
unfolding digits
digits-length base zero n = refl
digits-length base (suc k) n = simp length-append (omega (arith, digits-length base k (n / base)))

-- a turn of the loop: the lowest digit is stored, and the others are left to store
pub one_digit : (l : List ℕ) (at base k m n : ℕ) → k ≡ suc m
    → sets (set l (at + m) (digit_of (n % base))) at (digits base m (n / base)) ≡ sets l at (digits base k n)
unfolding digits
one_digit l at base k m n e =
    ahead l at (at + m) (digits base m (n / base)) (digit_of (n % base)) (ap (λ (j : ℕ). at + j) (sym (digits-length base m (n / base))))
    ∙ ap (λ (j : ℕ). sets l at (digits base j n)) (sym e)

-- digits and a newline
pub ended : (l : List ℕ) (at base k n p : ℕ) → p ≡ at + k
    → set (sets l at (digits base k n)) p newline ≡ sets l at (digits base k n ++ (newline ∷ []))
ended l at base k n p e = behind l at p (digits base k n) newline (e ∙ ap (λ (j : ℕ). at + j) (sym (digits-length base k n)))

-- ---- lines

pub line-length : (w : ℕ) → length (line_of w) ≡ 9
line-length w = simp length-append (omega (arith, digits-length 16 8 w))

pub lines-length : (ws : List ℕ) → length (lines_of ws) ≡ 9 * length ws
unfolding lines_of
lines-length [] = refl
lines-length (w ∷ ws) = length-append (line_of w) (lines_of ws) ∙ omega (arith, line-length w, lines-length ws)

lines_snoc : (ws : List ℕ) (w : ℕ) → lines_of (ws ++ (w ∷ [])) ≡ lines_of ws ++ line_of w
unfolding lines_of
lines_snoc [] w = append-nil (line_of w)
lines_snoc (v ∷ ws) w = ap (λ (z : List ℕ). line_of v ++ z) (lines_snoc ws w) ∙ sym (append_assoc (line_of v) (lines_of ws) (line_of w))

-- a turn of the loop
pub one_line : (l ws : List ℕ) (i : ℕ) → i < length ws
    → sets (sets l 0 (lines_of (take i ws))) (9 * i) (line_of (get_or ws i 0)) ≡ sets l 0 (lines_of (take (i + 1) ws))
one_line l ws i h =
    let k : 9 * i ≡ 0 + length (lines_of (take i ws)) = omega (arith, lines-length (take i ws), length-take-le i ws (omega arith)) in
    ap (λ (j : ℕ). sets (sets l 0 (lines_of (take i ws))) j (line_of (get_or ws i 0))) k
    ∙ sym (sets-append l 0 (lines_of (take i ws)) (line_of (get_or ws i 0)))
    ∙ ap (sets l 0)
    (sym (lines_snoc (take i ws) (get_or ws i 0)) ∙ ap lines_of (sym (take-suc ws i 0 h) ∙ ap (λ (n : ℕ). take n ws) (sym (add-one i))))

-- all of them are put
pub all_lines : (l ws text : List ℕ) (i : ℕ) → text ≡ sets l 0 (lines_of (take i ws)) → i ≡ length ws → 9 * length ws ≤ length l
    → Printed (lines_of ws) l text (9 * length ws)
all_lines l ws text i e k room =
    printed (lines_of ws) l text (9 * length ws)
    (e ∙ ap (λ (j : ℕ). sets l 0 (lines_of (take j ws))) k ∙ ap (λ (xs : List ℕ). sets l 0 (lines_of xs)) (take-length ws)) (omega (arith, lines-length ws)) room

-- ---- a refusal's line, put in three steps

pub refusal : (l l₁ l₂ : List ℕ) (n k at : ℕ) → PutText refused_text l 0 l₁ at → k ≡ digit_count n → k ≤ 3 → l₂ ≡ sets l₁ at (digits 10 k n) → 12 ≤ length l
    → Printed (refusal_of n) l (set l₂ (at + k) newline) (at + k + 1)
refusal l l₁ l₂ n k at p q small e room =
    let d = digits 10 k n ++ (newline ∷ []) in
    let m : length d ≡ k + 1 = simp length-append (omega (arith, digits-length 10 k n)) in
    let f : set l₂ (at + k) newline ≡ sets l 0 (refused_text ++ d) =
    ap (λ (z : List ℕ). set z (at + k) newline) e
    ∙ ended l₁ at 10 k n (at + k) refl
    ∙ ap (λ (z : List ℕ). sets z at d) p.text
    ∙ ap (λ (j : ℕ). sets (sets l 0 refused_text) j d) p.next
    ∙ sym (sets-append l 0 refused_text d) in
    let r : Printed (refused_text ++ d) l (set l₂ (at + k) newline) (at + k + 1) =
    printed (refused_text ++ d) l (set l₂ (at + k) newline) (at + k + 1) f (omega (arith, p.next)) (omega (arith, p.next)) in
    subst (λ (j : ℕ). Printed (refused_text ++ (digits 10 j n ++ (newline ∷ []))) l (set l₂ (at + k) newline) (at + k + 1)) q r
