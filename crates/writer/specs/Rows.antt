-- Tables and sections in regions of two lists.
use Rattle.std.specs.Prelude.{ℕ, zero, suc, ◌+◌, ◌-◌, Bool, true, false, ◌&&◌, List, [], ◌∷◌, eqb, ltb, get_or, take, drop}
use Rattle.std.specs.Prelude.{Option, Some, None}
use Rattle.definition.specs.Choice.{pick}
use Rattle.std.specs.Fn.{FnReturnsAt}
use denote.Param.Members.{Shared}
use denote.Ref.{Bor}
use Rattle.std.specs.Prelude.{◌≡◌}

-- a row of a table: a key in two numbers, and an id
pub record TableRow : Type 0 where
  pub first : ℕ
  pub second : ℕ
  pub id : ℕ

abbrev pub table_row : ℕ → ℕ → ℕ → TableRow
table_row a b i = record { first = a; second = b; id = i }

-- how a table keeps its rows: all three numbers, or, where every key is one number, that and the id
pub data RowKind : Type 0 where
  pair : RowKind
  triple : RowKind

abbrev pub row_length : RowKind → ℕ
row_length pair = 2
row_length triple = 3

-- the row at a place; where it is a pair, the key's second number is 0
abbrev pub row_at : RowKind → List ℕ → ℕ → TableRow
row_at pair T p = table_row (get_or T p 0) 0 (get_or T (p + 1) 0)
row_at triple T p = table_row (get_or T p 0) (get_or T (p + 1) 0) (get_or T (p + 2) 0)

-- the n rows from a place on
unfoldable pub table_rows : RowKind → List ℕ → ℕ → ℕ → List TableRow
table_rows k T p zero = []
table_rows k T p (suc n) = row_at k T p ∷ table_rows k T (p + row_length k) n

-- the n words from a place on
abbrev pub part : List ℕ → ℕ → ℕ → List ℕ
part S at n = take n (drop at S)

-- the id of the first row under a key
unfoldable pub seek_in : ℕ → ℕ → List TableRow → Option ℕ
seek_in a b [] = None
seek_in a b (r ∷ rs) = pick (eqb r.first a && eqb r.second b) (Some r.id) (seek_in a b rs)

-- two lists of numbers are equal
unfoldable pub same_list : List ℕ → List ℕ → Bool
same_list [] [] = true
same_list [] (y ∷ ys) = false
same_list (x ∷ xs) [] = false
same_list (x ∷ xs) (y ∷ ys) = pick (eqb x y) (same_list xs ys) false

-- the id of the first of n rows from p on under a key and with these parts; the rows' second number is how many parts a row
-- has, and the parts stand one row's behind the other's from o on, before q
unfoldable pub seek_parts : ℕ → List ℕ → ℕ → List ℕ → ℕ → ℕ → ℕ → Option ℕ
seek_parts key ps q T p o zero = None
seek_parts key ps q T p o (suc n) =
    pick (ltb (q - o) (get_or T (p + 1) 0)) None
    (pick (eqb (get_or T p 0) key && same_list (part T o (get_or T (p + 1) 0)) ps) (Some (get_or T (p + 2) 0))
    (seek_parts key ps q T (p + 3) (o + get_or T (p + 1) 0) n))

-- whether a number stands in a list
unfoldable pub is_listed : ℕ → List ℕ → Bool
is_listed c [] = false
is_listed c (x ∷ xs) = pick (eqb c x) true (is_listed c xs)

-- a closure answers a test of the value behind its argument
abbrev pub Computes : {F T : Type 0} → Shared F (Bor T × Unit {0}) Bool → F → (T → Bool) → Type 0
Computes g f t = (x : _) (b : Bool) → FnReturnsAt g f x b → b ≡ t x
