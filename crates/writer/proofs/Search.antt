-- Searching rows, and that a search of a table's rows is the definition's lookup: one law for any kind of key that is told apart by
-- two numbers, and then each table as an instance of it.
use Prim.Native.Nat.{ℕ, zero, suc, ◌+◌, ◌*◌, ◌-◌, ◌<◌}
use mathlib.Core.Path.{◌≡◌, refl, sym, ap, ◌∙◌}
use mathlib.Core.Bool.{Bool, true, false, ◌&&◌}
use mathlib.Core.List.{List, [], ◌∷◌, map}
use Rattle.std.specs.Prelude.{Option, Some, option_map}
use native.Mathlib.Omega.{arith}
use native.Mathlib.Decide.{ℕ_discrete}
use lib.Dec.{eqb}
use lib.ListN.{length, get_or, take, drop}
use lib.Seq.{drop-drop, get_or-take, get_or-drop, take-take}
use Rattle.std.proofs.lemmas.List.{drop-take}
use Rattle.std.specs.Simd.{first_chunks}
use Rattle.std.specs.List.{find}
use borrow.Author.Tests.{eq-eqb, eqb-true}
use Rattle.definition.specs.Choice.{pick}
use Rattle.definition.specs.Literals.{Literal, same_literal}
use Rattle.definition.specs.Shapes.{Key, same_key}
use Rattle.definition.specs.State.{lookup}
use Rattle.literals.specs.Forms.{literal_form, bits_of}
use Rattle.literals.proofs.Equal.{same_literal_lem}
use Rattle.lookup.specs.Packed.{packed_key, Small}
use Rattle.lookup.proofs.Injective.{injective}
use Rattle.writer.specs.declared.Writer.{Writer}
use Rattle.writer.specs.Rows.{TableRow, table_row, RowKind, pair, triple, row_length, row_at, table_rows, seek_in}
use Rattle.writer.specs.Regions.{literals_at, nulls_at}
use Rattle.writer.specs.Held.{Tables, All, key_row, literal_row, null_row}
use Rattle.writer.specs.Steps.{FindsType, FindsLiteral, FindsNull}

-- ---- rows as they are cut out of a list: what is found among the pieces is what is found among the rows

abbrev pub pieces : RowKind → List ℕ → ℕ → ℕ → List (List ℕ)
pieces k T p n = first_chunks (row_length k) n (take (row_length k * n) (drop p T))

more_pieces : (k : RowKind) (T : List ℕ) (p n : ℕ) → pieces k T p (suc n) ≡ take (row_length k) (drop p T) ∷ pieces k T (p + row_length k) n
more_pieces k T p n =
    let m : row_length k * suc n ≡ row_length k + row_length k * n = elim k as (λ j. row_length j * suc n ≡ row_length j + row_length j * n) [ pair ↦ omega arith | triple ↦ omega arith ] in
    let q : row_length k + p ≡ p + row_length k = omega arith in
    let first : take (row_length k) (take (row_length k * suc n) (drop p T)) ≡ take (row_length k) (drop p T) = rw m (take-take (row_length k) (row_length k + row_length k * n) (drop p T) (omega arith)) in
    let others : drop (row_length k) (take (row_length k * suc n) (drop p T)) ≡ take (row_length k * n) (drop (p + row_length k) T) =
    rw m (drop-take (row_length k) (row_length k * n) (drop p T)) ∙ ap (take (row_length k * n)) (drop-drop (row_length k) p T) in
    λ i. first i ∷ first_chunks (row_length k) n (others i)

piece_row : (k : RowKind) (T : List ℕ) (p : ℕ) → row_at k (take (row_length k) (drop p T)) 0 ≡ row_at k T p
piece_row pair T p = λ i. table_row (one 0 p (omega arith) (omega arith) i) 0 (one 1 (p + 1) (omega arith) refl i)
  where
    one : (j q : ℕ) → j < 2 → p + j ≡ q → get_or (take 2 (drop p T)) j 0 ≡ get_or T q 0
    one j q h e = get_or-take 2 (drop p T) j 0 h ∙ get_or-drop p T j 0 ∙ ap (λ (i : ℕ). get_or T i 0) e
piece_row triple T p = λ i. table_row (one 0 p (omega arith) (omega arith) i) (one 1 (p + 1) (omega arith) refl i) (one 2 (p + 2) (omega arith) refl i)
  where
    one : (j q : ℕ) → j < 3 → p + j ≡ q → get_or (take 3 (drop p T)) j 0 ≡ get_or T q 0
    one j q h e = get_or-take 3 (drop p T) j 0 h ∙ get_or-drop p T j 0 ∙ ap (λ (i : ℕ). get_or T i 0) e

pub and_all : (c : Bool) → c ≡ (c && true)
and_all true = refl
and_all false = refl

-- a test of pieces asks for the key
abbrev pub Asks : RowKind → ℕ → ℕ → (List ℕ → Bool) → Type 0
Asks k a b t = (r : List ℕ) → t r ≡ (eqb (row_at k r 0).first a && eqb (row_at k r 0).second b)

module _ (k : RowKind) (a b : ℕ) (t : List ℕ → Bool) (asks : Asks k a b t) (T : List ℕ) where
  pub finds_row : (p n : ℕ) → option_map (λ r. (row_at k r 0).id) (find t (pieces k T p n)) ≡ seek_in a b (table_rows k T p n)
  unfolding seek_in table_rows
  finds_row p zero = refl
  finds_row p (suc n) =
      ap (λ (rs : List (List ℕ)). option_map (λ r. (row_at k r 0).id) (find t rs)) (more_pieces k T p n)
      ∙ go (t (take (row_length k) (drop p T))) refl (finds_row (p + row_length k) n)
    where
      is : t (take (row_length k) (drop p T)) ≡ (eqb (row_at k T p).first a && eqb (row_at k T p).second b)
      is = asks (take (row_length k) (drop p T)) ∙ ap (λ (r : TableRow). eqb r.first a && eqb r.second b) (piece_row k T p)

      go : (c : Bool) → t (take (row_length k) (drop p T)) ≡ c → option_map (λ r. (row_at k r 0).id) (find t (pieces k T (p + row_length k) n)) ≡ seek_in a b (table_rows k T (p + row_length k) n)
          → option_map (λ r. (row_at k r 0).id) (find t ((take (row_length k) (drop p T)) ∷ pieces k T (p + row_length k) n))
          ≡ pick (eqb (row_at k T p).first a && eqb (row_at k T p).second b) (Some (row_at k T p).id) (seek_in a b (table_rows k T (p + row_length k) n))
      go true e r = rw (e, sym is ∙ e) (ap (λ (y : TableRow). Some y.id) (piece_row k T p))
      go false e r = rw (e, sym is ∙ e) r

-- the slice that is cut is as long as the rows
pub cut : (k : RowKind) (T : List ℕ) (p n l : ℕ) → l ≡ n → first_chunks (row_length k) l (take (p + row_length k * n - p) (drop p T)) ≡ pieces k T p n
cut k T p n l e =
    let f : p + row_length k * n - p ≡ row_length k * n = elim k as (λ j. p + row_length j * n - p ≡ row_length j * n) [ pair ↦ omega arith | triple ↦ omega arith ] in
    λ i. first_chunks (row_length k) (e i) (take (f i) (drop p T))

-- a triple's numbers, where they stand in the list
piece_at : (T : List ℕ) (p n i : ℕ) → i < n → get_or (pieces triple T p n) i [] ≡ take 3 (drop (p + 3 * i) T)
piece_at T p zero i h = absurd (omega arith)
piece_at T p (suc n) zero h = let e : p ≡ p + 3 * 0 = omega arith in ap (λ (l : List (List ℕ)). get_or l 0 []) (more_pieces triple T p n) ∙ ap (λ (q : ℕ). take 3 (drop q T)) e
piece_at T p (suc n) (suc i) h = let e : p + 3 + 3 * i ≡ p + 3 * suc i = omega arith in
    ap (λ (l : List (List ℕ)). get_or l (suc i) []) (more_pieces triple T p n) ∙ piece_at T (p + 3) n i (omega arith) ∙ ap (λ (q : ℕ). take 3 (drop q T)) e

pub pieces_length : (T : List ℕ) (p n : ℕ) → length (pieces triple T p n) ≡ n
pieces_length T p zero = refl
pieces_length T p (suc n) = ap (λ (l : List (List ℕ)). length l) (more_pieces triple T p n) ∙ ap suc (pieces_length T (p + 3) n)

pub cell : (T : List ℕ) (p n i j x : ℕ) (rows : List (List ℕ)) → rows ≡ pieces triple T p n → i < n → j < 3 → p + 3 * i + j ≡ x → get_or (get_or rows i []) j 0 ≡ get_or T x 0
cell T p n i j x rows e h l f =
    ap (λ (rs : List (List ℕ)). get_or (get_or rs i []) j 0) e ∙ ap (λ (r : List ℕ). get_or r j 0) (piece_at T p n i h)
    ∙ get_or-take 3 (drop (p + 3 * i) T) j 0 l ∙ get_or-drop (p + 3 * i) T j 0 ∙ ap (λ (y : ℕ). get_or T y 0) f

-- ---- a table's rows

module _ {A : Type 0} (alike : Discrete A) (f g : A → ℕ) (P : A → Type 0)
    (apart : (x y : A) → P x → P y → f x ≡ f y → g x ≡ g y → x ≡ y) where
  pub is_lookup : (k : A) → P k → (t : List (A × ℕ)) → All P t → seek_in (f k) (g k) (map (λ (x : A × ℕ). table_row (f x.0) (g x.0) x.1) t) ≡ lookup alike k t
  unfolding seek_in lookup
  is_lookup k pk [] h = refl
  is_lookup k pk (x ∷ xs) h = go (alike k x.0) (is_lookup k pk xs h.1) (eqb (f x.0) (f k)) (eqb (g x.0) (g k)) refl refl
    where
      go : (d : Dec (k ≡ x.0)) → seek_in (f k) (g k) (map (λ (x : A × ℕ). table_row (f x.0) (g x.0) x.1) xs) ≡ lookup alike k xs
          → (b c : Bool) → eqb (f x.0) (f k) ≡ b → eqb (g x.0) (g k) ≡ c
          → pick (eqb (f x.0) (f k) && eqb (g x.0) (g k)) (Some x.1) (seek_in (f k) (g k) (map (λ (x : A × ℕ). table_row (f x.0) (g x.0) x.1) xs))
          ≡ elim d [ yes p ↦ Some x.1 | no p ↦ lookup alike k xs ]
      go (yes e) r b c p q = rw (eq-eqb (f x.0) (f k) (sym (ap f e)), eq-eqb (g x.0) (g k) (sym (ap g e)))
      go (no n) r true true p q = absurd (n (sym (apart x.0 k h.0 pk (eqb-true _ _ p) (eqb-true _ _ q))))
      go (no n) r true false p q = rw (p, q) r
      go (no n) r false c p q = rw p r

all_unit : {A : Type 0} (t : List (A × ℕ)) → All (λ (x : A). Unit) t
all_unit [] = tt
all_unit (x ∷ xs) = (tt, all_unit xs)

pub seek_key : (k : Key) → Small k → (t : List (Key × ℕ)) → All Small t → seek_in (packed_key k) 0 (map key_row t) ≡ lookup same_key k t
seek_key k = is_lookup same_key packed_key (λ x. 0) Small (λ x y p q e f. injective x y p q e) k

pub seek_literal : (l : Literal) (t : List (Literal × ℕ)) → seek_in (literal_form l) (bits_of l) (map literal_row t) ≡ lookup same_literal l t
seek_literal l t = is_lookup same_literal literal_form bits_of (λ x. Unit) (λ x y p q e f. same_literal_lem x y e f) l tt t (all_unit t)

pub seek_null : (n : ℕ) (t : List (ℕ × ℕ)) → seek_in n 0 (map null_row t) ≡ lookup ℕ_discrete n t
seek_null n t = is_lookup ℕ_discrete (λ x. x) (λ x. 0) (λ x. Unit) (λ x y p q e f. e) n tt t (all_unit t)

-- ---- the writer's tables

module _ (w : Writer) (r : Option ℕ) where
  pub finds_type : (key : ℕ) → r ≡ seek_in key 0 (table_rows pair w.tables.now 0 w.used.types) → FindsType key w r
  finds_type key q k sm e s h =
      q ∙ ap (λ (n : ℕ). seek_in n 0 (table_rows pair w.tables.now 0 w.used.types)) e ∙ ap (λ (t : Tables). seek_in (packed_key k) 0 t.types) h.1.tables ∙ seek_key k sm s.types h.1.small.keys

  pub finds_literal : (form bits : ℕ) → r ≡ seek_in form bits (table_rows triple w.tables.now (literals_at w.used) w.used.literals) → FindsLiteral form bits w r
  finds_literal form bits q l e f s h =
      q ∙ (λ j. seek_in (e j) (f j) (table_rows triple w.tables.now (literals_at w.used) w.used.literals)) ∙ ap (λ (t : Tables). seek_in (literal_form l) (bits_of l) t.literals) h.1.tables ∙ seek_literal l s.constants.literals

  pub finds_null : (ty : ℕ) → r ≡ seek_in ty 0 (table_rows pair w.tables.now (nulls_at w.used) w.used.nulls) → FindsNull ty w r
  finds_null ty q s h = q ∙ ap (λ (t : Tables). seek_in ty 0 t.nulls) h.1.tables ∙ seek_null ty s.constants.nulls
