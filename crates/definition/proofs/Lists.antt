-- General facts on lists, counts and tables: one more element at the end, how often an id is declared or a capability listed, what
-- a lookup that succeeds or fails says of the table. Nothing here knows a rule.
use Prim.Native.Nat.{ℕ, suc, zero, ◌+◌, ◌<◌, ◌≤◌, min}
use mathlib.Core.Path.{◌≡◌, refl, sym, ap, ◌∙◌}
use mathlib.Core.Logic.{◌⊎◌, inl, inr, ◌≢◌}
use mathlib.Core.List.Memᴰ
use mathlib.Core.List.{List, [], ◌∷◌, ◌++◌, append_assoc, Memᴰ, append-nil}
use Rattle.std.specs.Prelude.{Some, None}
use mathlib.Core.Bool.{Bool, true, false}
use native.Mathlib.Omega.{arith}
use Rattle.std.specs.List.{slice_get}
use lib.ListN.{length, get_or}
use lib.Dec.{eqb, leb, eqb→eq, leb→le, nleb→lt}
use borrow.Author.Tests.{eq-eqb, le-leb, lt-leb}
use Rattle.definition.specs.Choice.{pick}
use Rattle.definition.specs.Instructions.{Instruction}
use Rattle.definition.specs.State.{lookup, same, occurrences, listed, list_one}
use Rattle.definition.specs.WellDeclared.{times, once, Above, UsesDeclared, NoEqualTypes, EqualTypes, needs, needed, targets, target_of}

-- one more at the end
pub last_in {ℓ} : {A : Type ℓ} (xs : List A) (a : A) → Memᴰ a (xs ++ a ∷ [])
last_in xs a = Memᴰ.append_right xs (Memᴰ.head refl)

pub snoc_cases {ℓ} : {A : Type ℓ} {a b : A} (xs : List A) → Memᴰ a (xs ++ b ∷ []) → Memᴰ a xs ⊎ (a ≡ b)
snoc_cases {A = A} {a} {b} xs m = go (Memᴰ.append_cases xs m)
  where
    go : Memᴰ a xs ⊎ Memᴰ a (b ∷ []) → Memᴰ a xs ⊎ (a ≡ b)
    go (inl p) = inl p
    go (inr p) = inr (Memᴰ.eq_of_singleton p)

-- a number is itself
pub same_itself : (i : ℕ) → same i i ≡ 1
same_itself i = rw (eq-eqb i i refl)

pub same_cases : (i j : ℕ) → (same i j ≡ 0) ⊎ ((i ≡ j) × (same i j ≡ 1))
same_cases i j = go (eqb i j) refl
  where
    go : (b : Bool) → eqb i j ≡ b → (same i j ≡ 0) ⊎ ((i ≡ j) × (same i j ≡ 1))
    go true e = inr (eqb→eq i j (rw e tt), rw e)
    go false e = inl (rw e)

-- i is at most n
abbrev pub up_to : ℕ → ℕ → ℕ
up_to n i = pick (leb i n) 1 0

pub up_to_in : (n i : ℕ) → i ≤ n → up_to n i ≡ 1
up_to_in n i h = rw (le-leb i n h)

pub up_to_out : (n i : ℕ) → n < i → up_to n i ≡ 0
up_to_out n i h = rw (lt-leb i n h)

pub up_to_suc : (n i : ℕ) → up_to (suc n) i ≡ up_to n i + same i (suc n)
up_to_suc n i = go (leb i n) refl (same_cases i (suc n))
  where
    go : (b : Bool) → leb i n ≡ b → (same i (suc n) ≡ 0) ⊎ ((i ≡ suc n) × (same i (suc n) ≡ 1)) → up_to (suc n) i ≡ up_to n i + same i (suc n)
    go true e (inl p) = let h : i ≤ n = leb→le i n (rw e tt) in omega (arith, up_to_in n i h, up_to_in (suc n) i (omega arith))
    go true e (inr p) = let h : i ≤ n = leb→le i n (rw e tt) in absurd (omega arith)
    go false e (inl p) =
        let h : n < i = nleb→lt i n (rw e tt) in
        let ne : i ≢ suc n = λ q. absurd (not_both q) in
        omega (arith, up_to_out n i h, up_to_out (suc n) i (omega arith))
      where
        not_both : i ≡ suc n → ⊥
        not_both q = let z = same_itself (suc n) in let w : same (suc n) (suc n) ≡ 0 = rw (q) at p in omega arith
    go false e (inr p) = let h : n < i = nleb→lt i n (rw e tt) in omega (arith, up_to_out n i h, up_to_in (suc n) i (omega arith))

pub times-append : (i : ℕ) (xs ys : List Instruction) → times i (xs ++ ys) ≡ times i xs + times i ys
unfolding times
times-append i [] ys = omega arith
times-append i (x ∷ xs) ys = let h = times-append i xs ys in omega arith

pub times_one : (i : ℕ) (x : Instruction) → times i (x ∷ []) ≡ once x.result i
unfolding times
times_one i x = omega arith

pub times_snoc : (i : ℕ) (xs : List Instruction) (x : Instruction) → times i (xs ++ x ∷ []) ≡ times i xs + once x.result i
times_snoc i xs x = times-append i xs (x ∷ []) ∙ ap (λ (n : ℕ). times i xs + n) (times_one i x)

pub times_in : (i : ℕ) {x : Instruction} {xs : List Instruction} → Memᴰ x xs → once x.result i ≤ times i xs
unfolding times
times_in i {x} (Memᴰ.head {x = y} {xs = ys} e) = let e' : once x.result i ≡ once y.result i = ap (λ (z : Instruction). once z.result i) e in omega arith
times_in i (Memᴰ.tail m) = let h = times_in i m in omega arith

-- what holds of lists that grow at the end
pub above_snoc : (before xs : List Instruction) (x : Instruction) → Above before xs → UsesDeclared (before ++ xs) x → Above before (xs ++ x ∷ [])
above_snoc before [] x h u = (rw append-nil at u, tt)
above_snoc before (y ∷ xs) x h u = (h.0, above_snoc (before ++ y ∷ []) xs x h.1 (rw append_assoc u))

pub equal_types_snoc : (xs : List Instruction) (x : Instruction) → NoEqualTypes xs → ((j : Instruction) → Memᴰ j xs → EqualTypes j x → ⊥) → NoEqualTypes (xs ++ x ∷ [])
equal_types_snoc [] x h n = (λ j m t. Memᴰ.not-nil m, tt)
equal_types_snoc (y ∷ xs) x h n = (λ j m t. go j t (snoc_cases xs m), equal_types_snoc xs x h.1 (λ j m. n j (Memᴰ.tail m)))
  where
    go : (j : Instruction) → EqualTypes y j → Memᴰ j xs ⊎ (j ≡ x) → ⊥
    go j t (inl m) = h.0 j m t
    go j t (inr e) = n y (Memᴰ.head refl) (rw e at t)

-- the table
pub lookup_in : {A : Type 0} (d : Discrete A) (k : A) (xs : List (A × ℕ)) (i : ℕ) → lookup d k xs ≡ Some i → Memᴰ (k, i) xs
unfolding lookup
lookup_in d k [] i e = absurd (let z : ◌≡◌ {A = ℕ} 0 1 = cc in omega arith)
lookup_in {A} d k (x ∷ xs) i e = go (d k x.0) refl (lookup_in d k xs i)
  where
    go : (c : Dec (k ≡ x.0)) → d k x.0 ≡ c → (lookup d k xs ≡ Some i → Memᴰ (k, i) xs) → Memᴰ (k, i) (x ∷ xs)
    go (yes p) q ih = let e' : Some x.1 ≡ Some i = rw (q, lookup) at e in let f : x.1 ≡ i = cc in Memᴰ.head (λ j. (p j, sym f j))
    go (no p) q ih = Memᴰ.tail (ih (rw (q, lookup) at e))

pub lookup_out : {A : Type 0} (d : Discrete A) (k : A) (xs : List (A × ℕ)) → lookup d k xs ≡ None → (i : ℕ) → Memᴰ (k, i) xs → ⊥
unfolding lookup
lookup_out d k [] e i m = Memᴰ.not-nil m
lookup_out {A} d k (x ∷ xs) e i m = go (d k x.0) refl (λ f. lookup_out d k xs f i) (Memᴰ.cases_cons m)
  where
    go : (c : Dec (k ≡ x.0)) → d k x.0 ≡ c → (lookup d k xs ≡ None → Memᴰ (k, i) xs → ⊥) → (Path (A × ℕ) (k, i) x) ⊎ Memᴰ (k, i) xs → ⊥
    go (yes p) q ih c = let e' : Some x.1 ≡ None = rw (q, lookup) at e in let z : ◌≡◌ {A = ℕ} 0 1 = cc in omega arith
    go (no p) q ih (inl f) = p (ap (λ (y : A × ℕ). y.0) f)
    go (no p) q ih (inr m') = ih (rw (q, lookup) at e) m'

-- capabilities
pub occurrences_snoc : (c : ℕ) (xs : List ℕ) (x : ℕ) → occurrences c (xs ++ x ∷ []) ≡ occurrences c xs + same c x
unfolding occurrences
occurrences_snoc c [] x = omega arith
occurrences_snoc c (y ∷ xs) x = let h = occurrences_snoc c xs x in omega arith

pub list_one_count : (c x : ℕ) (cs : List ℕ) → occurrences c cs ≤ 1 → occurrences c (list_one (occurrences x cs) x cs) ≡ min 1 (occurrences c cs + same c x)
list_one_count c x cs h = go (occurrences x cs) refl (same_cases c x)
  where
    go : (n : ℕ) → occurrences x cs ≡ n → (same c x ≡ 0) ⊎ ((c ≡ x) × (same c x ≡ 1)) → occurrences c (list_one n x cs) ≡ min 1 (occurrences c cs + same c x)
    go zero e (inl p) = let z = occurrences_snoc c cs x in omega arith
    go zero e (inr p) = let z = occurrences_snoc c cs x in let f : occurrences c cs ≡ 0 = rw p.0 e in omega arith
    go (suc n) e (inl p) = omega arith
    go (suc n) e (inr p) = let f : occurrences c cs ≡ suc n = rw p.0 e in omega arith

pub listed_count : (c : ℕ) (xs cs : List ℕ) → occurrences c cs ≤ 1 → occurrences c (listed xs cs) ≡ min 1 (occurrences c cs + occurrences c xs)
unfolding listed occurrences
listed_count c [] cs h = omega arith
listed_count c (x ∷ xs) cs h =
    let f = list_one_count c x cs h in
    let g = listed_count c xs (list_one (occurrences x cs) x cs) (omega arith) in
    omega arith

pub needed_snoc : (c : ℕ) (xs : List Instruction) (x : Instruction) → needed c (xs ++ x ∷ []) ≡ needed c xs + occurrences c (needs x)
unfolding needed
needed_snoc c [] x = omega arith
needed_snoc c (y ∷ xs) x = let h = needed_snoc c xs x in omega arith

pub targets-append : (xs ys : List Instruction) → targets (xs ++ ys) ≡ targets xs ++ targets ys
unfolding targets
targets-append [] ys = refl
targets-append (x ∷ xs) ys = rw (targets-append xs ys) (sym (append_assoc (target_of x) (targets xs) (targets ys)))

-- ---- elements

-- an element within the length is in the list
pub get_or_in : {A : Type 0} (xs : List A) (i : ℕ) (d : A) → i < length xs → Memᴰ (get_or xs i d) xs
get_or_in [] i d l = absurd (omega arith)
get_or_in (x ∷ xs) zero d l = Memᴰ.head refl
get_or_in (x ∷ xs) (suc i) d l = Memᴰ.tail (get_or_in xs i d (omega arith))

-- what holds of every element, and of the default
pub get_or_snoc : {A : Type 0} (P : A → Type 0) (xs : List A) (a d : A) → ((h : ℕ) → P (get_or xs h d)) → P a → (h : ℕ) → P (get_or (xs ++ a ∷ []) h d)
get_or_snoc P [] a d f p zero = p
get_or_snoc P [] a d f p (suc h) = f 0
get_or_snoc P (x ∷ xs) a d f p zero = f 0
get_or_snoc P (x ∷ xs) a d f p (suc h) = get_or_snoc P xs a d (λ k. f (suc k)) p h

-- an element of the longer list is one of the shorter, or the last
pub element_snoc : {A : Type 0} (xs : List A) (a b : A) (h : ℕ) → slice_get (xs ++ a ∷ []) h ≡ Some b → (slice_get xs h ≡ Some b) ⊎ ((h ≡ length xs) × (a ≡ b))
element_snoc [] a b zero e = inr (refl, let q : Some a ≡ Some b = e in cc)
element_snoc [] a b (suc h) e = let z : ◌≡◌ {A = ℕ} 0 1 = cc in absurd (omega arith)
element_snoc (x ∷ xs) a b zero e = inl e
element_snoc (x ∷ xs) a b (suc h) e = go (element_snoc xs a b h e)
  where
    go : (slice_get xs h ≡ Some b) ⊎ ((h ≡ length xs) × (a ≡ b)) → (slice_get (x ∷ xs) (suc h) ≡ Some b) ⊎ ((suc h ≡ suc (length xs)) × (a ≡ b))
    go (inl p) = inl p
    go (inr p) = inr (ap suc p.0, p.1)

-- ---- a table with one more entry

pub table_bounded : {K : Type 0} (xs : List (K × ℕ)) (k₀ : K) (id B : ℕ) → ((k : K) (i : ℕ) → Memᴰ (k, i) xs → i ≤ B) → id ≤ B → (k : K) (i : ℕ) → Memᴰ (k, i) (xs ++ (k₀, id) ∷ []) → i ≤ B
table_bounded {K} xs k₀ id B h l k i m = go (snoc_cases xs m)
  where
    go : Memᴰ (k, i) xs ⊎ (Path (K × ℕ) (k, i) (k₀, id)) → i ≤ B
    go (inl n) = h k i n
    go (inr q) = let e : i ≡ id = ap (λ (y : K × ℕ). y.1) q in omega arith

-- a key that was not there has one id
pub table_unique : {K : Type 0} (xs : List (K × ℕ)) (k₀ : K) (id : ℕ) → ((k : K) (i j : ℕ) → Memᴰ (k, i) xs → Memᴰ (k, j) xs → i ≡ j) → ((i : ℕ) → Memᴰ (k₀, i) xs → ⊥)
    → (k : K) (i j : ℕ) → Memᴰ (k, i) (xs ++ (k₀, id) ∷ []) → Memᴰ (k, j) (xs ++ (k₀, id) ∷ []) → i ≡ j
table_unique {K} xs k₀ id h new k i j m n = go (snoc_cases xs m) (snoc_cases xs n)
  where
    go : Memᴰ (k, i) xs ⊎ (Path (K × ℕ) (k, i) (k₀, id)) → Memᴰ (k, j) xs ⊎ (Path (K × ℕ) (k, j) (k₀, id)) → i ≡ j
    go (inl a) (inl b) = h k i j a b
    go (inl a) (inr q) = absurd (new i (rw (ap (λ (y : K × ℕ). y.0) q) at a))
    go (inr q) (inl b) = absurd (new j (rw (ap (λ (y : K × ℕ). y.0) q) at b))
    go (inr q) (inr p) = ap (λ (y : K × ℕ). y.1) q ∙ sym (ap (λ (y : K × ℕ). y.1) p)
