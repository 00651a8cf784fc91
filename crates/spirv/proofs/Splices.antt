-- Words written into a buffer at a place: its length stays, nothing written changes nothing, and what is written behind what was
-- written is written with it.
use Prim.Native.Nat.{ℕ, ◌+◌, ◌≤◌}
use mathlib.Core.Path.{◌≡◌, sym, ap, ◌∙◌}
use mathlib.Core.List.{List, [], ◌++◌, append_assoc, append-nil}
use native.Mathlib.Omega.{arith}
use lib.ListN.{length, take, drop, length-append, length-drop, take-append-drop}
use lib.Seq.{length-take-le, drop-drop, take_at, drop-append-add}
use Rattle.spirv.specs.Sections.{splice}

pub splice-length : (xs : List ℕ) (p : ℕ) (ws : List ℕ) → p + length ws ≤ length xs → length (splice xs p ws) ≡ length xs
splice-length xs p ws room = simp (length-append, length-take-le p xs (omega arith), length-drop) (omega arith)

-- nothing is written
pub splice_none : (xs : List ℕ) (p : ℕ) → xs ≡ splice xs p []
splice_none xs p =
    let e : p + 0 ≡ p = omega arith in
    sym (ap (λ (l : List ℕ). l ++ drop (p + 0) xs) (append-nil (take p xs)) ∙ ap (λ (j : ℕ). take p xs ++ drop j xs) e ∙ take-append-drop p xs)

-- what is written behind what was written is written with it
pub splice-splice : (xs : List ℕ) (p : ℕ) (ws : List ℕ) (q : ℕ) (vs : List ℕ) → q ≡ p + length ws → q + length vs ≤ length xs → splice (splice xs p ws) q vs ≡ splice xs p (ws ++ vs)
splice-splice xs p ws q vs e room =
    let h : length (take p xs ++ ws) ≡ q = simp (length-append, length-take-le p xs (omega arith)) (omega arith) in
    let f : p + length ws + length vs ≡ p + length (ws ++ vs) = simp length-append (omega arith) in
    let g : q + length vs ≡ length (take p xs ++ ws) + length vs = omega arith in
    let a : take q (splice xs p ws) ≡ take p xs ++ ws = take_at (take p xs ++ ws) (drop (p + length ws) xs) q h in
    let b : drop (q + length vs) (splice xs p ws) ≡ drop (p + length (ws ++ vs)) xs =
    ap (λ (j : ℕ). drop j (splice xs p ws)) g ∙ drop-append-add (take p xs ++ ws) (drop (p + length ws) xs) (length vs)
    ∙ drop-drop (length vs) (p + length ws) xs ∙ ap (λ (j : ℕ). drop j xs) f in
    (λ i. (a i ++ vs) ++ b i) ∙ ap (λ (l : List ℕ). l ++ drop (p + length (ws ++ vs)) xs) (append_assoc (take p xs) ws vs)
