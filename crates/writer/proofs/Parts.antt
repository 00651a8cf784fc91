-- Searching composites by their parts, and that the search is the definition's lookup: first two lists of numbers part by part,
-- then one row, whose parts are a window of the table's parts, then all rows by induction.
use Prim.Native.Nat.{ℕ, zero, suc, ◌+◌, ◌-◌, ◌%◌, ◌≤◌, ◌<◌}
use mathlib.Core.Path.{◌≡◌, refl, sym, ap, ◌∙◌}
use mathlib.Core.Bool.{Bool, true, false, ◌&&◌}
use mathlib.Core.List.{List, [], ◌∷◌, map}
use Rattle.std.specs.Prelude.{Option, Some, None}
use native.Mathlib.Omega.{arith}
use native.Mathlib.Numerals.{add-one}
use lib.Dec.{eqb, ltb}
use lib.ListN.{length, get_or, take, drop, length-append, length-drop, drop_of_length-le}
use lib.Seq.{length-take-le, take-take, take-add, take_at, drop_at, drop-drop, drop-cons, get_or-take, get_or-drop}
use borrow.Author.Tests.{eq-eqb, ne_eqb, eqb-true, lt-ltb, le-ltb}
use Rattle.definition.specs.Choice.{pick}
use Rattle.definition.specs.Shapes.{Key, one, many, scalar, vector, matrix, pointer, value_pointer, image, sampler, acceleration_structure, ray_query, binding_array, binding_pointer, entry, shape}
use Rattle.definition.specs.State.{Composite, composite, same_composite, lookup, function, void}
use Rattle.lookup.specs.Packed.{packed_key}
use Rattle.lookup.proofs.Injective.{injective}
use Rattle.writer.specs.declared.Writer.{Writer}
use Rattle.writer.specs.Rows.{TableRow, table_row, triple, table_rows, part, same_list, seek_parts}
use Rattle.writer.specs.Regions.{composites_at, parts_at}
use Rattle.writer.specs.Cost.{staging}
use Rattle.writer.specs.Held.{Tables, All, SmallComposite, composite_key, parts_of_c, composite_row, all_parts, RoomIn}
use Rattle.writer.specs.Steps.{staged, FindsComposite}

-- ---- lists of numbers

drop_at1 : (s : List ℕ) (i : ℕ) → i < length s → drop i s ≡ get_or s i 0 ∷ drop (i + 1) s
drop_at1 s i h = rw (add-one, drop-cons s i 0)

pick_no : (t : Bool) → pick t false false ≡ false
pick_no true = refl
pick_no false = refl

and_no : (t : Bool) → (t && false) ≡ false
and_no true = refl
and_no false = refl

pub list_length : (a b : List ℕ) → (length a ≡ length b → ⊥) → same_list a b ≡ false
unfolding same_list
list_length [] [] h = absurd (h refl)
list_length [] (y ∷ b) h = refl
list_length (x ∷ a) [] h = refl
list_length (x ∷ a) (y ∷ b) h = rw (list_length a b (λ e. h (ap suc e)), pick_no)

list_same : (a : List ℕ) → same_list a a ≡ true
unfolding same_list
list_same [] = refl
list_same (x ∷ a) = rw (eq-eqb x x refl) (list_same a)

list_equal : (a b : List ℕ) → same_list a b ≡ true → a ≡ b
unfolding same_list
list_equal [] [] e = refl
list_equal [] (y ∷ b) e = let z : ◌≡◌ {A = ℕ} 0 1 = cc in absurd (omega arith)
list_equal (x ∷ a) [] e = let z : ◌≡◌ {A = ℕ} 0 1 = cc in absurd (omega arith)
list_equal (x ∷ a) (y ∷ b) e = go (eqb x y) refl (list_equal a b) e
  where
    go : (t : Bool) → eqb x y ≡ t → (same_list a b ≡ true → a ≡ b) → pick t (same_list a b) false ≡ true → x ∷ a ≡ y ∷ b
    go true p f q = let u = eqb-true x y p in let v = f q in λ i. u i ∷ v i
    go false p f q = let z : ◌≡◌ {A = ℕ} 0 1 = cc in absurd (omega arith)

part_same : (a b : List ℕ) (j : ℕ) → j < length a → j < length b → get_or a j 0 ≡ get_or b j 0 → same_list (drop j a) (drop j b) ≡ same_list (drop (j + 1) a) (drop (j + 1) b)
unfolding same_list
part_same a b j la lb h = rw (drop_at1 a j la, drop_at1 b j lb, eq-eqb (get_or a j 0) (get_or b j 0) h)

pub parts_end : (a b : List ℕ) (j : ℕ) → length a ≤ j → length b ≤ j → same_list (drop j a) (drop j b) ≡ true
unfolding same_list
parts_end a b j la lb = rw (drop_of_length-le a {i = j} la, drop_of_length-le b {i = j} lb)

-- a slice is a window of the list
pub lent : (T : List ℕ) (p n : ℕ) → take (p + n - p) (drop p T) ≡ part T p n
lent T p n = let e : p + n - p ≡ n = omega arith in ap (λ (k : ℕ). part T p k) e

-- a window of a list
module _ (P : List ℕ) (o l : ℕ) (h : o + l ≤ length P) where
  pub part_length : length (part P o l) ≡ l
  part_length = length-take-le l (drop o P) (simp length-drop (omega arith))

  part_at : (j : ℕ) → j < l → get_or (part P o l) j 0 ≡ get_or P (o + j) 0
  part_at j k = get_or-take l (drop o P) j 0 k ∙ get_or-drop o P j 0

-- two windows of one list, as long as each other
module _ (T : List ℕ) (p q n : ℕ) (hp : p + n ≤ length T) (hq : q + n ≤ length T) (j x y : ℕ) (h : j < n) (ex : x ≡ p + j) (ey : y ≡ q + j) where
  at_first : get_or (part T p n) j 0 ≡ get_or T x 0
  at_first = part_at T p n hp j h ∙ ap (λ (i : ℕ). get_or T i 0) (sym ex)

  at_second : get_or (part T q n) j 0 ≡ get_or T y 0
  at_second = part_at T q n hq j h ∙ ap (λ (i : ℕ). get_or T i 0) (sym ey)

  pub windows_differ : (get_or T x 0 ≡ get_or T y 0 → ⊥) → false ≡ same_list (part T p n) (part T q n)
  windows_differ d = go (same_list (part T p n) (part T q n)) refl
    where
      go : (t : Bool) → same_list (part T p n) (part T q n) ≡ t → false ≡ t
      go true e = absurd (d (sym at_first ∙ ap (λ (l : List ℕ). get_or l j 0) (list_equal (part T p n) (part T q n) e) ∙ at_second))
      go false e = refl

  pub windows_same : (k : ℕ) → k ≡ j + 1 → get_or T x 0 ≡ get_or T y 0
      → same_list (drop j (part T p n)) (drop j (part T q n)) ≡ same_list (drop k (part T p n)) (drop k (part T q n))
  windows_same k e d =
      let lp = part_length T p n hp in let lq = part_length T q n hq in
      part_same (part T p n) (part T q n) j (omega arith) (omega arith) (at_first ∙ d ∙ sym at_second)
      ∙ ap (λ (i : ℕ). same_list (drop i (part T p n)) (drop i (part T q n))) (sym e)

-- ---- row by row

module _ (key : ℕ) (ps : List ℕ) (q : ℕ) (T : List ℕ) (p o : ℕ) where
  abbrev len : ℕ
  len = get_or T (p + 1) 0

  turn : (k m : ℕ) → k ≡ suc m → seek_parts key ps q T p o k
      ≡ pick (ltb (q - o) len) None (pick (eqb (get_or T p 0) key && same_list (part T o len) ps) (Some (get_or T (p + 2) 0)) (seek_parts key ps q T (p + 3) (o + len) m))
  unfolding seek_parts
  turn k m e = ap (λ (j : ℕ). seek_parts key ps q T p o j) e

  pub parts_over : (k : ℕ) → 0 < k → q - o < len → seek_parts key ps q T p o k ≡ None
  parts_over k h l = turn k (k - 1) (omega arith) ∙ rw (lt-ltb (q - o) len l)

  pub parts_ended : (k : ℕ) → k ≡ 0 → seek_parts key ps q T p o k ≡ None
  unfolding seek_parts
  parts_ended k e = ap (λ (j : ℕ). seek_parts key ps q T p o j) e

  module _ (k m : ℕ) (h : k ≡ suc m) (l : len ≤ q - o) where
    pub parts_hit : get_or T p 0 ≡ key → same_list (part T o len) ps ≡ true → seek_parts key ps q T p o k ≡ Some (get_or T (p + 2) 0)
    parts_hit e f = turn k m h ∙ rw (le-ltb (q - o) len l, eq-eqb _ _ e, f)

    pub other_key : (get_or T p 0 ≡ key → ⊥) → seek_parts key ps q T p o k ≡ seek_parts key ps q T (p + 3) (o + len) m
    other_key e = turn k m h ∙ rw (le-ltb (q - o) len l, ne_eqb _ _ e)

    pub other_parts : same_list (part T o len) ps ≡ false → seek_parts key ps q T p o k ≡ seek_parts key ps q T (p + 3) (o + len) m
    other_parts e = turn k m h ∙ rw (le-ltb (q - o) len l, e, and_no)

-- ---- a table's rows and its parts

no_row : TableRow
no_row = table_row 0 0 0

-- a key's last digit to base 16 says which key it is, and is 12 at most
last_digit : (k : Key) → packed_key k % 16 ≤ 12
last_digit (entry h) = omega arith
last_digit (shape (scalar k)) = omega arith
last_digit (shape (vector n k)) = omega arith
last_digit (shape (matrix c r w)) = omega arith
last_digit (shape (pointer b c)) = omega arith
last_digit (shape (value_pointer one k c)) = omega arith
last_digit (shape (value_pointer (many n) k c)) = omega arith
last_digit (shape (image k d p a m s f)) = omega arith
last_digit (shape sampler) = omega arith
last_digit (shape acceleration_structure) = omega arith
last_digit (shape ray_query) = omega arith
last_digit (shape (binding_array b n)) = omega arith
last_digit (shape (binding_pointer b n s a)) = omega arith

-- number and parts tell it
same_composite_lem : (x y : Composite) → SmallComposite x → SmallComposite y → composite_key x ≡ composite_key y → parts_of_c x ≡ parts_of_c y → x ≡ y
same_composite_lem (composite k xs) (composite l ys) p q e f = let g = injective k l p q e in λ i. composite (g i) (f i)
same_composite_lem (composite k xs) (function ys) p q e f = absurd (omega (arith, last_digit k))
same_composite_lem (composite k xs) void p q e f = absurd (omega (arith, last_digit k))
same_composite_lem (function xs) (composite l ys) p q e f = absurd (omega (arith, last_digit l))
same_composite_lem (function xs) (function ys) p q e f = ap function f
same_composite_lem (function xs) void p q e f = absurd (omega arith)
same_composite_lem void (composite l ys) p q e f = absurd (omega (arith, last_digit l))
same_composite_lem void (function ys) p q e f = absurd (omega arith)
same_composite_lem void void p q e f = refl

pub seek_composite : (v : Composite) → SmallComposite v → (q : ℕ) (T : List ℕ) (p o n : ℕ) (cs : List (Composite × ℕ)) → All SmallComposite cs
    → table_rows triple T p n ≡ map composite_row cs → o ≤ q → q ≤ length T → part T o (q - o) ≡ all_parts cs
    → seek_parts (composite_key v) (parts_of_c v) q T p o n ≡ lookup same_composite v cs
unfolding seek_parts table_rows all_parts lookup
seek_composite v sv q T p o zero [] a e ho hq f = refl
seek_composite v sv q T p o zero (c ∷ cs) a e ho hq f = let z : ◌≡◌ {A = ℕ} 0 1 = cc in absurd (omega arith)
seek_composite v sv q T p o (suc n) [] a e ho hq f = let z : ◌≡◌ {A = ℕ} 0 1 = cc in absurd (omega arith)
seek_composite v sv q T p o (suc n) (c ∷ cs) a e ho hq f =
    let ps = parts_of_c c.0 in
    let l = get_or T (p + 1) 0 in
    let X = drop o T in
    let e0 : get_or T p 0 ≡ composite_key c.0 = ap (λ (r : List TableRow). (get_or r 0 no_row).first) e in
    let e1 : l ≡ length ps = ap (λ (r : List TableRow). (get_or r 0 no_row).second) e in
    let e2 : get_or T (p + 2) 0 ≡ c.1 = ap (λ (r : List TableRow). (get_or r 0 no_row).id) e in
    let et : table_rows triple T (p + 3) n ≡ map composite_row cs = ap (drop 1) e in
    let w : q - o ≡ length ps + length (all_parts cs) = sym (part_length T o (q - o) (omega arith)) ∙ ap length f ∙ length-append ps (all_parts cs) in
    let h : l ≤ q - o = omega arith in
    let g : part T o l ≡ ps = sym (take-take l (q - o) X h) ∙ ap (take l) f ∙ take_at ps (all_parts cs) l (sym e1) in
    let m : q - o ≡ l + (q - (o + l)) = omega arith in
    let r : part T (o + l) (q - (o + l)) ≡ all_parts cs =
    ap (take (q - (o + l))) (sym (drop-drop l o T))
    ∙ sym (drop_at (take l X) (take (q - (o + l)) (drop l X)) l (part_length T o l (omega arith)))
    ∙ ap (drop l) (sym (take-add l (q - (o + l)) X) ∙ ap (λ (j : ℕ). take j X) (sym m) ∙ f)
    ∙ drop_at ps (all_parts cs) l (sym e1) in
    let rec = seek_composite v sv q T (p + 3) (o + l) n cs a.1 et (omega arith) hq r in
    rw (le-ltb (q - o) l h) (rw (e0, g, e2) (go (same_composite v c.0) rec (eqb (composite_key c.0) (composite_key v)) (same_list ps (parts_of_c v)) refl refl))
  where
    go : (d : Dec (v ≡ c.0)) → {rest : Option ℕ} → rest ≡ lookup same_composite v cs
        → (b t : Bool) → eqb (composite_key c.0) (composite_key v) ≡ b → same_list (parts_of_c c.0) (parts_of_c v) ≡ t
        → pick (eqb (composite_key c.0) (composite_key v) && same_list (parts_of_c c.0) (parts_of_c v)) (Some c.1) rest
        ≡ elim d [ yes x ↦ Some c.1 | no x ↦ lookup same_composite v cs ]
    go (yes x) r b t u w =
        let y : composite_key c.0 ≡ composite_key v = sym (ap composite_key x) in
        let z : parts_of_c c.0 ≡ parts_of_c v = sym (ap parts_of_c x) in
        let i : same_list (parts_of_c c.0) (parts_of_c v) ≡ true = ap (λ (j : List ℕ). same_list j (parts_of_c v)) z ∙ list_same (parts_of_c v) in
        rw (eq-eqb (composite_key c.0) (composite_key v) y, i)
    go (no x) r true true u w = absurd (x (sym (same_composite_lem c.0 v a.0 sv (eqb-true _ _ u) (list_equal (parts_of_c c.0) (parts_of_c v) w))))
    go (no x) r true false u w = rw (u, w) r
    go (no x) r false t u w = rw u r

pub finds_composite : (w : Writer) (r : Option ℕ) (key n : ℕ) → RoomIn (staging n) w
    → r ≡ seek_parts key (staged n w) (parts_at w.used + w.used.parts) w.tables.now (composites_at w.used) (parts_at w.used) w.used.composites → FindsComposite key n w r
finds_composite w r key n room q c sm e f s h =
    let T = w.tables.now in
    let u = w.used in
    let end = parts_at u + u.parts in
    let d : end - parts_at u ≡ u.parts = omega arith in
    q ∙ (λ j. seek_parts (e j) (f j) end T (composites_at u) (parts_at u) u.composites)
    ∙ seek_composite c sm end T (composites_at u) (parts_at u) u.composites s.constants.composites h.1.small.composed
    (ap (λ (t : Tables). t.composites) h.1.tables) (omega arith) (omega arith)
    (ap (λ (m : ℕ). part T (parts_at u) m) d ∙ ap (λ (t : Tables). t.parts) h.1.tables)
