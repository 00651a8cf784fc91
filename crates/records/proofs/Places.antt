-- Places in the sheet: what is left from the place behind a record on, and where a whole record ends.
use Prim.Native.Nat.{ℕ, ◌+◌, ◌≤◌, ◌<◌}
use mathlib.Core.Path.{◌≡◌, sym}
use mathlib.Core.Bool.{false, not, ◌&&◌}
use mathlib.Core.List.{List}
use native.Mathlib.Omega.{arith}
use native.Mathlib.Decide.{dec_lt}
use borrow.Author.Tests.{not-false, ltb-true, leb-true, le-leb, lt-leb, lt-ltb, le-ltb}
use lib.Dec.{leb, ltb}
use lib.ListN.{length, take, drop, length-drop}
use lib.Seq.{drop-drop, take_all}
use Rattle.definition.specs.Bytes.{u16_at}
use Rattle.definition.specs.Choice.{within}
use Rattle.definition.specs.Sheet.{after_record}
use Rattle.definition.specs.Tests.{no_record, header_test}
use Rattle.definition.proofs.Truth.{both, unless_zero}

pub rest : (s : List ℕ) (at : ℕ) → take (length s) (drop at s) ≡ drop at s
rest s at = take_all (length s) (drop at s) (simp length-drop (omega arith))

not_leb_at : (a b : ℕ) → Dec (b < a) → not (leb a b) ≡ ltb b a
not_leb_at a b (yes h) = simp (lt-leb a b h, lt-ltb b a h)
not_leb_at a b (no h) = simp (le-leb a b (omega arith), le-ltb b a (omega arith))

pub not_leb : (a b : ℕ) → not (leb a b) ≡ ltb b a
not_leb a b = not_leb_at a b (dec_lt b a)

-- behind the record at a place
pub behind : (s : List ℕ) (at : ℕ) → drop (at + (2 + u16_at (drop at s) 0)) s ≡ after_record (drop at s)
unfolding after_record
behind s at = sym (drop-drop (2 + u16_at (drop at s) 0) at s)

-- a whole record has a length, and ends within what is left
pub whole : (rest : List ℕ) → no_record rest ≡ false → (0 < u16_at rest 0) × (2 + u16_at rest 0 ≤ length rest)
unfolding no_record
whole rest e =
    let a = both (leb 2 (length rest)) (ltb 0 (u16_at rest 0) && leb (2 + u16_at rest 0) (length rest)) (not-false _ e) in
    let b = both (ltb 0 (u16_at rest 0)) (leb (2 + u16_at rest 0) (length rest)) a.1 in
    (ltb-true 0 (u16_at rest 0) b.0, leb-true (2 + u16_at rest 0) (length rest) b.1)

-- a sheet that passes tests 1 to 3 has a length from 6 to 16,384
pub header_size : (s : List ℕ) → header_test s ≡ 0 → (6 ≤ length s) × (length s ≤ 16384)
unfolding header_test
header_size s h =
    let a = unless_zero (within 6 16384 (length s)) 0 _ h in
    let b = both (leb 6 (length s)) (leb (length s) 16384) a.0 in
    (leb-true 6 (length s) b.0, leb-true (length s) 16384 b.1)
