-- Test 12 compares tags and bodies. A record that passed test 8 is its name and its fields, one after the other, each in its one
-- form: so it can be written down again from them, and two such records of types are equal exactly if their names and fields are.
use Prim.Native.Nat.{ℕ, suc, zero, ◌+◌, ◌*◌, ◌/◌, ◌%◌, ◌<◌, ◌≤◌}
use mathlib.Core.Bool.{Bool, true, false, ◌&&◌}
use mathlib.Core.List.{List, [], ◌∷◌, ◌++◌}
use mathlib.Core.Logic.{◌↔◌}
use Rattle.std.specs.Prelude.{Some, None}
use mathlib.Core.Path.{◌≡◌, refl, sym, ap, ◌∙◌}
use native.Mathlib.Numerals.{add-one}
use native.Mathlib.Omega.{arith}
use lib.Dec.{T, eqb, leb, leb→le, eqb→eq}
use lib.ListN.{length, take, drop, drop_of_length-le, length-take, length-drop, take-append-drop}
use lib.Seq.{drop-cons, drop-drop}
use borrow.Author.Tests.{eq-eqb, eqb-true, eqb-false, leb-false}
use Rattle.definition.specs.Choice.{pick}
use Rattle.definition.specs.Bytes.{Name, u8_at, u16_at, u32_at, name_at, name_end}
use Rattle.definition.specs.Sheet.{Record, Member, TypeInner, Fields, members_at, members_end, type_fields}
use Rattle.definition.specs.Sheet.{Scalar, Vector, Matrix, Atomic, Pointer, ValuePointer, Array, Struct, Image, Sampler, AccelerationStructure, RayQuery, BindingArray}
use Rattle.definition.specs.Tests.{same_bytes, same_record}
use Rattle.definition.proofs.Truth.{both_true, pick_for}
use Rattle.definition.proofs.Sizes.{Under}
use Rattle.definition.proofs.Bounds.{u8_small, u16_small}
use Rattle.definition.proofs.Passing.{members_count}

-- ---- fields, written down again

abbrev be16 : ℕ → List ℕ
be16 x = x / 256 ∷ x % 256 ∷ []

abbrev be32 : ℕ → List ℕ
be32 x = be16 (x / 65536) ++ be16 (x % 65536)

abbrev name_bytes : Name → List ℕ
name_bytes None = 255 ∷ []
name_bytes (Some bs) = length bs ∷ bs

abbrev member_bytes : List Member → List ℕ
member_bytes [] = []
member_bytes (m ∷ ms) = be16 m.type ++ (be32 m.offset ++ (name_bytes m.name ++ member_bytes ms))

abbrev inner_bytes : TypeInner → List ℕ
inner_bytes (Scalar k w) = k ∷ w ∷ []
inner_bytes (Vector n k w) = n ∷ k ∷ w ∷ []
inner_bytes (Matrix c r w) = c ∷ r ∷ w ∷ []
inner_bytes (Atomic k w) = k ∷ w ∷ []
inner_bytes (Pointer b s a) = be16 b ++ (s ∷ a ∷ [])
inner_bytes (ValuePointer n k w s a) = n ∷ k ∷ w ∷ s ∷ a ∷ []
inner_bytes (Array b n d) = be16 b ++ (be32 n ++ (be32 d ++ []))
inner_bytes (Struct n ms) = be32 n ++ (length ms ∷ member_bytes ms)
inner_bytes (Image d a c x y) = d ∷ a ∷ c ∷ x ∷ y ∷ []
inner_bytes (Sampler c) = c ∷ []
inner_bytes AccelerationStructure = []
inner_bytes RayQuery = []
inner_bytes (BindingArray b n) = be16 b ++ (be32 n ++ [])

abbrev tag_of : TypeInner → ℕ
tag_of (Scalar k w) = 16
tag_of (Vector n k w) = 17
tag_of (Matrix c r w) = 18
tag_of (Atomic k w) = 19
tag_of (Pointer b s a) = 20
tag_of (ValuePointer n k w s a) = 21
tag_of (Array b n d) = 22
tag_of (Struct n ms) = 23
tag_of (Image d a c x y) = 24
tag_of (Sampler c) = 25
tag_of AccelerationStructure = 26
tag_of RayQuery = 27
tag_of (BindingArray b n) = 28

-- ---- each field takes its bytes off the front of what is left

module _ (b : List ℕ) (u : Under 255 b) where
  nil : (n : ℕ) → n ≡ length b → drop n b ≡ []
  nil n e = let l : length b ≤ n = omega arith in drop_of_length-le b l

  byte : (n m : ℕ) (xs : List ℕ) → m ≡ n + 1 → m ≤ length b → drop m b ≡ xs → drop n b ≡ u8_at b n ∷ xs
  byte n m xs e l h = drop-cons b n 0 (omega arith) ∙ ap (λ (ys : List ℕ). u8_at b n ∷ ys) (ap (λ (k : ℕ). drop k b) (sym (e ∙ add-one n)) ∙ h)

  half : (n m : ℕ) (xs : List ℕ) → m ≡ n + 2 → m ≤ length b → drop m b ≡ xs → drop n b ≡ be16 (u16_at b n) ++ xs
  unfolding u16_at
  half n m xs e l h =
      let hi : (u8_at b n * 256 + u8_at b (n + 1)) / 256 ≡ u8_at b n = omega (arith, u8_small b u (n + 1)) in
      let lo : (u8_at b n * 256 + u8_at b (n + 1)) % 256 ≡ u8_at b (n + 1) = omega (arith, u8_small b u (n + 1)) in
      byte n (n + 1) (u8_at b (n + 1) ∷ xs) refl (omega arith) (byte (n + 1) m xs (omega arith) l h) ∙ rw (hi, lo)

  word : (n m : ℕ) (xs : List ℕ) → m ≡ n + 4 → m ≤ length b → drop m b ≡ xs → drop n b ≡ be32 (u32_at b n) ++ xs
  unfolding u32_at
  word n m xs e l h =
      let hi : (u16_at b n * 65536 + u16_at b (n + 2)) / 65536 ≡ u16_at b n = omega (arith, u16_small b u (n + 2)) in
      let lo : (u16_at b n * 65536 + u16_at b (n + 2)) % 65536 ≡ u16_at b (n + 2) = omega (arith, u16_small b u (n + 2)) in
      half n (n + 2) (be16 (u16_at b (n + 2)) ++ xs) refl (omega arith) (half (n + 2) m xs (omega arith) l h) ∙ rw (hi, lo)

  end_later : (n : ℕ) → n < name_end b n
  unfolding name_end
  end_later n = go (eqb (u8_at b n) 255)
    where
      go : (c : Bool) → n < pick c (n + 1) (n + 1 + u8_at b n)
      go true = omega arith
      go false = omega arith

  called : (n : ℕ) (xs : List ℕ) → name_end b n ≤ length b → drop (name_end b n) b ≡ xs → drop n b ≡ name_bytes (name_at b n) ++ xs
  unfolding name_end name_at
  called n xs l h = go (eqb (u8_at b n) 255) refl l h
    where
      go : (c : Bool) → eqb (u8_at b n) 255 ≡ c → pick c (n + 1) (n + 1 + u8_at b n) ≤ length b → drop (pick c (n + 1) (n + 1 + u8_at b n)) b ≡ xs
          → drop n b ≡ name_bytes (pick c None (Some (take (u8_at b n) (drop (n + 1) b)))) ++ xs
      go true e l h = byte n (n + 1) xs refl l h ∙ ap (λ (k : ℕ). k ∷ xs) (eqb-true (u8_at b n) 255 e)
      go false e l h =
          let k = u8_at b n in
          let few : length (take k (drop (n + 1) b)) ≡ k = omega (arith, length-take k (drop (n + 1) b), length-drop (n + 1) b) in
          let rest : drop (n + 1) b ≡ take k (drop (n + 1) b) ++ xs = sym (take-append-drop k (drop (n + 1) b)) ∙ ap (λ (ys : List ℕ). take k (drop (n + 1) b) ++ ys) (drop-drop k (n + 1) b ∙ h) in
          byte n (n + 1) (take k (drop (n + 1) b) ++ xs) refl (omega arith) rest ∙ ap (λ (x : ℕ). x ∷ (take k (drop (n + 1) b) ++ xs)) (sym few)

  -- ---- members, fields, records

  members_later : (p n : ℕ) → p ≤ members_end b p n
  unfolding members_end
  members_later p zero = omega arith
  members_later p (suc n) = let h = members_later (name_end b (p + 6)) n in omega (arith, end_later (p + 6))

  members_again : (p n : ℕ) → members_end b p n ≡ length b → drop p b ≡ member_bytes (members_at b p n)
  unfolding members_end members_at
  members_again p zero e = nil p e
  members_again p (suc n) e =
      let q = name_end b (p + 6) in
      let later = members_later q n in
      let small : p + 6 < q = end_later (p + 6) in
      half p (p + 2) _ refl (omega arith) (word (p + 2) (p + 6) _ (omega arith) (omega arith) (called (p + 6) _ (omega arith) (members_again q n e)))

  -- what a type's fields give, the name's end being n
  record Again (n : ℕ) (f : Fields TypeInner) : Type 0 where
    later : n ≤ f.end
    bytes : f.end ≡ length b → drop n b ≡ inner_bytes f.value

  fields_again : (t n : ℕ) → Again n (type_fields t b n)
  unfolding type_fields
  fields_again t n =
      pick_for (Again n) (eqb t 16) _ _ (record { later = omega arith; bytes = pair })
      (pick_for (Again n) (eqb t 17) _ _ (record { later = omega arith; bytes = triple })
      (pick_for (Again n) (eqb t 18) _ _ (record { later = omega arith; bytes = triple })
      (pick_for (Again n) (eqb t 19) _ _ (record { later = omega arith; bytes = pair })
      (pick_for (Again n) (eqb t 20) _ _ (record { later = omega arith; bytes = λ e. half n (n + 2) _ refl (omega arith) (byte (n + 2) (n + 3) _ (omega arith) (omega arith) (byte (n + 3) (n + 4) [] (omega arith) (omega arith) (nil (n + 4) e))) })
      (pick_for (Again n) (eqb t 21) _ _ (record { later = omega arith; bytes = five })
      (pick_for (Again n) (eqb t 22) _ _ (record { later = omega arith; bytes = λ e. half n (n + 2) _ refl (omega arith) (word (n + 2) (n + 6) _ (omega arith) (omega arith) (word (n + 6) (n + 10) [] (omega arith) (omega arith) (nil (n + 10) e))) })
      (pick_for (Again n) (eqb t 23) _ _ (record { later = omega (arith, members_later (n + 5) (u8_at b (n + 4))); bytes = λ e. struct e })
      (pick_for (Again n) (eqb t 24) _ _ (record { later = omega arith; bytes = five })
      (pick_for (Again n) (eqb t 25) _ _ (record { later = omega arith; bytes = λ e. byte n (n + 1) [] refl (omega arith) (nil (n + 1) e) })
      (pick_for (Again n) (eqb t 26) _ _ (record { later = omega arith; bytes = λ e. nil n e })
      (pick_for (Again n) (eqb t 27) _ _ (record { later = omega arith; bytes = λ e. nil n e })
      (record { later = omega arith; bytes = λ e. half n (n + 2) _ refl (omega arith) (word (n + 2) (n + 6) [] (omega arith) (omega arith) (nil (n + 6) e)) }))))))))))))
    where
      pair : n + 2 ≡ length b → drop n b ≡ u8_at b n ∷ u8_at b (n + 1) ∷ []
      pair e = byte n (n + 1) _ refl (omega arith) (byte (n + 1) (n + 2) [] (omega arith) (omega arith) (nil (n + 2) e))

      triple : n + 3 ≡ length b → drop n b ≡ u8_at b n ∷ u8_at b (n + 1) ∷ u8_at b (n + 2) ∷ []
      triple e = byte n (n + 1) _ refl (omega arith) (byte (n + 1) (n + 2) _ (omega arith) (omega arith) (byte (n + 2) (n + 3) [] (omega arith) (omega arith) (nil (n + 3) e)))

      five : n + 5 ≡ length b → drop n b ≡ u8_at b n ∷ u8_at b (n + 1) ∷ u8_at b (n + 2) ∷ u8_at b (n + 3) ∷ u8_at b (n + 4) ∷ []
      five e =
          byte n (n + 1) _ refl (omega arith) (byte (n + 1) (n + 2) _ (omega arith) (omega arith) (byte (n + 2) (n + 3) _ (omega arith) (omega arith)
          (byte (n + 3) (n + 4) _ (omega arith) (omega arith) (byte (n + 4) (n + 5) [] (omega arith) (omega arith) (nil (n + 5) e)))))

      struct : members_end b (n + 5) (u8_at b (n + 4)) ≡ length b → drop n b ≡ be32 (u32_at b n) ++ (length (members_at b (n + 5) (u8_at b (n + 4))) ∷ member_bytes (members_at b (n + 5) (u8_at b (n + 4))))
      struct e =
          let k = u8_at b (n + 4) in
          let later = members_later (n + 5) k in
          word n (n + 4) _ refl (omega arith)
          (byte (n + 4) (n + 5) _ (omega arith) (omega arith) (members_again (n + 5) k e) ∙ ap (λ (x : ℕ). x ∷ member_bytes (members_at b (n + 5) k)) (sym (members_count b (n + 5) k)))

  -- the whole body of a type that passed test 8
  body_again : (t : ℕ) → (type_fields t b (name_end b 0)).end ≡ length b → b ≡ name_bytes (name_at b 0) ++ inner_bytes (type_fields t b (name_end b 0)).value
  body_again t e =
      let f = fields_again t (name_end b 0) in
      called 0 (inner_bytes (type_fields t b (name_end b 0)).value) (omega (arith, f.later)) (f.bytes e)

-- ---- the fields tell the tag

pick_when {ℓ} : {A : Type ℓ} (P : A → Type 0) (c : Bool) (x y : A) → (c ≡ true → P x) → (c ≡ false → P y) → P (pick c x y)
pick_when P true x y f g = f refl
pick_when P false x y f g = g refl

-- a number at least k that is not k
above : (k t : ℕ) → k ≤ t → eqb t k ≡ false → suc k ≤ t
above k t l e = go (leb (suc k) t) refl
  where
    go : (c : Bool) → leb (suc k) t ≡ c → suc k ≤ t
    go true f = leb→le (suc k) t (rw f tt)
    go false f = absurd (eqb-false t k e (omega (arith, leb-false (suc k) t f)))

tag_again : (b : List ℕ) (n t : ℕ) → 16 ≤ t → t ≤ 28 → tag_of (type_fields t b n).value ≡ t
unfolding type_fields
tag_again b n t low high =
    pick_when HasTag (eqb t 16) _ _ (λ e. sym (eqb-true t 16 e)) (λ e₁.
    pick_when HasTag (eqb t 17) _ _ (λ e. sym (eqb-true t 17 e)) (λ e₂.
    pick_when HasTag (eqb t 18) _ _ (λ e. sym (eqb-true t 18 e)) (λ e₃.
    pick_when HasTag (eqb t 19) _ _ (λ e. sym (eqb-true t 19 e)) (λ e₄.
    pick_when HasTag (eqb t 20) _ _ (λ e. sym (eqb-true t 20 e)) (λ e₅.
    pick_when HasTag (eqb t 21) _ _ (λ e. sym (eqb-true t 21 e)) (λ e₆.
    pick_when HasTag (eqb t 22) _ _ (λ e. sym (eqb-true t 22 e)) (λ e₇.
    pick_when HasTag (eqb t 23) _ _ (λ e. sym (eqb-true t 23 e)) (λ e₈.
    pick_when HasTag (eqb t 24) _ _ (λ e. sym (eqb-true t 24 e)) (λ e₉.
    pick_when HasTag (eqb t 25) _ _ (λ e. sym (eqb-true t 25 e)) (λ e₁₀.
    pick_when HasTag (eqb t 26) _ _ (λ e. sym (eqb-true t 26 e)) (λ e₁₁.
    pick_when HasTag (eqb t 27) _ _ (λ e. sym (eqb-true t 27 e)) (λ e₁₂.
    omega (arith, above 27 t (above 26 t (above 25 t (above 24 t (above 23 t (above 22 t (above 21 t (above 20 t (above 19 t (above 18 t (above 17 t (above 16 t low e₁) e₂) e₃) e₄) e₅) e₆) e₇) e₈) e₉) e₁₀) e₁₁) e₁₂)))))))))))))
  where
    HasTag : Fields TypeInner → Type 0
    HasTag f = tag_of f.value ≡ t

-- ---- the theorem

-- lists of bytes are equal exactly if the test says so
pub same_bytes_lem : (xs ys : List ℕ) → T (same_bytes xs ys) → xs ≡ ys
unfolding same_bytes
same_bytes_lem [] [] t = refl
same_bytes_lem [] (y ∷ ys) t = absurd t
same_bytes_lem (x ∷ xs) [] t = absurd t
same_bytes_lem (x ∷ xs) (y ∷ ys) t = go (eqb x y) refl t (same_bytes_lem xs ys)
  where
    go : (c : Bool) → eqb x y ≡ c → T (pick c (same_bytes xs ys) false) → (T (same_bytes xs ys) → xs ≡ ys) → x ∷ xs ≡ y ∷ ys
    go true e t f = let p : x ≡ y = eqb-true x y e in let q : xs ≡ ys = f t in cc
    go false e t f = absurd t

bytes_same : (xs : List ℕ) → T (same_bytes xs xs)
unfolding same_bytes
bytes_same [] = tt
bytes_same (x ∷ xs) = rw (eq-eqb x x refl) (bytes_same xs)

-- a record of a type that passed test 8
pub record Whole (r : Record) : Type 0 where
  pub bytes : Under 255 r.body
  pub low : 16 ≤ r.tag
  pub high : r.tag ≤ 28
  pub whole : (type_fields r.tag r.body (name_end r.body 0)).end ≡ length r.body

abbrev pub name_of : Record → Name
name_of r = name_at r.body 0

abbrev pub inner_of : Record → TypeInner
inner_of r = (type_fields r.tag r.body (name_end r.body 0)).value

-- "a type equal to an earlier one in name and all fields"
pub test_12 : (r q : Record) → Whole r → Whole q → T (same_record r q) ↔ ((name_of r ≡ name_of q) × (inner_of r ≡ inner_of q))
unfolding same_record
test_12 r q h g = (forth, back)
  where
    forth : T (eqb r.tag q.tag && same_bytes r.body q.body) → (name_of r ≡ name_of q) × (inner_of r ≡ inner_of q)
    forth t =
        let d = both_true (eqb r.tag q.tag) (same_bytes r.body q.body) t in
        let e : r.tag ≡ q.tag = eqb→eq r.tag q.tag d.0 in
        let f : r.body ≡ q.body = same_bytes_lem r.body q.body d.1 in
        (ap (λ (b : List ℕ). name_at b 0) f, cc)

    back : (name_of r ≡ name_of q) × (inner_of r ≡ inner_of q) → T (eqb r.tag q.tag && same_bytes r.body q.body)
    back e =
        let t : r.tag ≡ q.tag = sym (tag_again r.body (name_end r.body 0) r.tag h.low h.high) ∙ (ap tag_of e.1 ∙ tag_again q.body (name_end q.body 0) q.tag g.low g.high) in
        let x = body_again r.body h.bytes r.tag h.whole in
        let y = body_again q.body g.bytes q.tag g.whole in
        let z : r.body ≡ q.body = x ∙ (ap (λ (n : Name). name_bytes n ++ inner_bytes (inner_of r)) e.0 ∙ (ap (λ (i : TypeInner). name_bytes (name_of q) ++ inner_bytes i) e.1 ∙ sym y)) in
        rw (t, z) (rw (eq-eqb q.tag q.tag refl) (bytes_same q.body))
