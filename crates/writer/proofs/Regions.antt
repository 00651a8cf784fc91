-- The frame law of regions: what is written in one leaves the others, and stands behind what its own region had. It is shown of
-- one splice, element by element; rows and words are regions read in two ways.
use Prim.Native.Nat.{ℕ, zero, suc, ◌+◌, ◌*◌, ◌-◌, ◌≤◌, ◌<◌}
use mathlib.Core.Path.{◌≡◌, refl, sym, ap, ◌∙◌}
use mathlib.Core.List.{List, [], ◌∷◌, ◌++◌, append_assoc}
use native.Mathlib.Numerals.{add-one}
use native.Mathlib.Omega.{arith}
use lib.ListN.{length, get_or, take, drop, length-append, length-take, length-drop, get_or-append}
use lib.Seq.{length-take-le, get_or-take, get_or-drop, get_or-append-add, ext_get_or, take-add, drop-drop, take_at, drop_at}
use Rattle.spirv.specs.Sections.{splice}
use Rattle.spirv.proofs.Splices.{splice-length}
use Rattle.writer.specs.Rows.{TableRow, table_row, RowKind, pair, triple, row_length, row_at, table_rows, part}

-- the lists have the same elements in a region
abbrev pub Agree : List ℕ → List ℕ → ℕ → ℕ → Type 0
Agree xs ys b n = (j : ℕ) → b ≤ j → j < b + n → get_or ys j 0 ≡ get_or xs j 0

module _ (xs : List ℕ) (p : ℕ) (ws : List ℕ) (room : p + length ws ≤ length xs) where
  head-length : length (take p xs ++ ws) ≡ p + length ws
  head-length = simp (length-append, length-take-le p xs (omega arith))

  before : (j : ℕ) → j < p → get_or (splice xs p ws) j 0 ≡ get_or xs j 0
  before j h =
      let l = length-take-le p xs (omega arith) in
      get_or-append (take p xs ++ ws) (drop (p + length ws) xs) 0 j (omega (arith, head-length))
      ∙ get_or-append (take p xs) ws 0 j (omega arith) ∙ get_or-take p xs j 0 h

  pub behind : (j : ℕ) → p + length ws ≤ j → get_or (splice xs p ws) j 0 ≡ get_or xs j 0
  behind j h =
      let e : j ≡ length (take p xs ++ ws) + (j - (p + length ws)) = omega (arith, head-length) in
      let f : p + length ws + (j - (p + length ws)) ≡ j = omega arith in
      ap (λ (k : ℕ). get_or (splice xs p ws) k 0) e
      ∙ get_or-append-add (take p xs ++ ws) (drop (p + length ws) xs) (j - (p + length ws)) 0
      ∙ get_or-drop (p + length ws) xs (j - (p + length ws)) 0
      ∙ ap (λ (k : ℕ). get_or xs k 0) f

  pub inside : (k : ℕ) → k < length ws → get_or (splice xs p ws) (p + k) 0 ≡ get_or ws k 0
  inside k h =
      let l : length (take p xs) ≡ p = length-take-le p xs (omega arith) in
      let e : p + k ≡ length (take p xs) + k = omega arith in
      get_or-append (take p xs ++ ws) (drop (p + length ws) xs) 0 (p + k) (omega (arith, head-length))
      ∙ ap (λ (j : ℕ). get_or (take p xs ++ ws) j 0) e ∙ get_or-append-add (take p xs) ws k 0

  -- a region on the left, and one on the right, of what is written
  pub left : (b n : ℕ) → b + n ≤ p → Agree xs (splice xs p ws) b n
  left b n h j l r = before j (omega arith)

  pub right : (b n : ℕ) → p + length ws ≤ b → Agree xs (splice xs p ws) b n
  right b n h j l r = behind j (omega arith)

-- ---- rows, of either kind

row_agrees : (k : RowKind) (xs ys : List ℕ) (b n : ℕ) → Agree xs ys b (row_length k * suc n) → row_at k ys b ≡ row_at k xs b
row_agrees pair xs ys b n h =
    let p = h b (omega arith) (omega arith) in
    let q = h (b + 1) (omega arith) (omega arith) in
    λ i. table_row (p i) 0 (q i)
row_agrees triple xs ys b n h =
    let p = h b (omega arith) (omega arith) in
    let q = h (b + 1) (omega arith) (omega arith) in
    let r = h (b + 2) (omega arith) (omega arith) in
    λ i. table_row (p i) (q i) (r i)

pub rows_agree : (k : RowKind) (xs ys : List ℕ) (b n : ℕ) → Agree xs ys b (row_length k * n) → table_rows k ys b n ≡ table_rows k xs b n
unfolding table_rows
rows_agree k xs ys b zero h = refl
rows_agree k xs ys b (suc n) h =
    let r = row_agrees k xs ys b n h in
    let t = rows_agree k xs ys (b + row_length k) n (λ j l u. h j (omega arith) (omega arith)) in
    λ i. r i ∷ t i

rows_last : (k : RowKind) (ys : List ℕ) (b n : ℕ) → table_rows k ys b (suc n) ≡ table_rows k ys b n ++ row_at k ys (b + row_length k * n) ∷ []
unfolding table_rows
rows_last k ys b zero =
    let e : b ≡ b + row_length k * 0 = omega arith in
    ap (λ (j : ℕ). row_at k ys j ∷ []) e
rows_last k ys b (suc n) =
    let e : b + row_length k + row_length k * n ≡ b + row_length k * suc n = omega arith in
    let t = rows_last k ys (b + row_length k) n ∙ ap (λ (j : ℕ). table_rows k ys (b + row_length k) n ++ row_at k ys j ∷ []) e in
    ap (λ (l : List TableRow). row_at k ys b ∷ l) t

-- what is written is a row
pub pair_put : (xs : List ℕ) (p a i : ℕ) → p + 2 ≤ length xs → row_at pair (splice xs p (a ∷ i ∷ [])) p ≡ table_row a 0 i
pair_put xs p a i h =
    let ws = a ∷ i ∷ [] in
    let z : p ≡ p + 0 = omega arith in
    let q0 = ap (λ (j : ℕ). get_or (splice xs p ws) j 0) z ∙ inside xs p ws h 0 (omega arith) in
    let q1 = inside xs p ws h 1 (omega arith) in
    λ t. table_row (q0 t) 0 (q1 t)

pub triple_put : (xs : List ℕ) (p a c i : ℕ) → p + 3 ≤ length xs → row_at triple (splice xs p (a ∷ c ∷ i ∷ [])) p ≡ table_row a c i
triple_put xs p a c i h =
    let ws = a ∷ c ∷ i ∷ [] in
    let z : p ≡ p + 0 = omega arith in
    let q0 = ap (λ (j : ℕ). get_or (splice xs p ws) j 0) z ∙ inside xs p ws h 0 (omega arith) in
    let q1 = inside xs p ws h 1 (omega arith) in
    let q2 = inside xs p ws h 2 (omega arith) in
    λ t. table_row (q0 t) (q1 t) (q2 t)

-- one row more
pub rows_more : (k : RowKind) (xs : List ℕ) (b n p : ℕ) (ws : List ℕ) (r : TableRow) → p ≡ b + row_length k * n → p + length ws ≤ length xs
    → row_at k (splice xs p ws) p ≡ r → table_rows k (splice xs p ws) b (n + 1) ≡ table_rows k xs b n ++ r ∷ []
rows_more k xs b n p ws r e h f =
    let ys = splice xs p ws in
    let u : table_rows k ys b n ≡ table_rows k xs b n = rows_agree k xs ys b n (left xs p ws h b (row_length k * n) (omega arith)) in
    let v : row_at k ys (b + row_length k * n) ≡ r = ap (λ (j : ℕ). row_at k ys j) (sym e) ∙ f in
    ap (table_rows k ys b) (add-one n) ∙ rows_last k ys b n ∙ (λ t. u t ++ v t ∷ [])

-- ---- words

pub part_agree : (xs ys : List ℕ) (b n : ℕ) → length ys ≡ length xs → Agree xs ys b n → part ys b n ≡ part xs b n
part_agree xs ys b n l h =
    ext_get_or 0 (part ys b n) (part xs b n) (simp (length-take, length-drop, l))
    (λ j r.
    let m : j < n = omega (arith, simp (length-take, length-drop) at r) in
    get_or-take n (drop b ys) j 0 m ∙ get_or-drop b ys j 0 ∙ h (b + j) (omega arith) (omega arith)
    ∙ sym (get_or-drop b xs j 0) ∙ sym (get_or-take n (drop b xs) j 0 m))

pub part_left : (xs : List ℕ) (p : ℕ) (ws : List ℕ) → p + length ws ≤ length xs → (b n : ℕ) → b + n ≤ p → part (splice xs p ws) b n ≡ part xs b n
part_left xs p ws room b n h = part_agree xs (splice xs p ws) b n (splice-length xs p ws room) (left xs p ws room b n h)

pub part_right : (xs : List ℕ) (p : ℕ) (ws : List ℕ) → p + length ws ≤ length xs → (b n : ℕ) → p + length ws ≤ b → part (splice xs p ws) b n ≡ part xs b n
part_right xs p ws room b n h = part_agree xs (splice xs p ws) b n (splice-length xs p ws room) (right xs p ws room b n h)

-- words more
pub part_more : (xs : List ℕ) (b n p : ℕ) (ws : List ℕ) → p ≡ b + n → p + length ws ≤ length xs → part (splice xs p ws) b (n + length ws) ≡ part xs b n ++ ws
part_more xs b n p ws e room =
    let ys = splice xs p ws in
    let d : drop n (drop b ys) ≡ ws ++ drop (p + length ws) xs =
    drop-drop n b ys ∙ ap (λ (j : ℕ). drop j ys) (sym e) ∙ ap (drop p) (append_assoc (take p xs) ws (drop (p + length ws) xs))
    ∙ drop_at (take p xs) (ws ++ drop (p + length ws) xs) p (length-take-le p xs (omega arith)) in
    take-add n (length ws) (drop b ys)
    ∙ (λ t. part_left xs p ws room b n (omega arith) t ++ (ap (take (length ws)) d ∙ take_at ws (drop (p + length ws) xs) (length ws) refl) t)
