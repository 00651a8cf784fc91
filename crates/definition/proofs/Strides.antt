-- Paper 4. Test 10 asks of a matrix what the rules ask for a stride. Table and formula are computed and compared whole
-- (`table_agrees`); `tabled_at` gives each number of such a table by rows and width. Of a fit sheet every type has passed test 10,
-- which each record that passes keeps so (`types_fit`).
use Prim.Native.Nat.{ℕ, ◌-◌, ◌/◌, ◌≤◌}
use mathlib.Core.Path.{◌≡◌, refl, sym, subst}
use mathlib.Core.Bool.{Bool, true, false}
use mathlib.Core.List.{List, [], ◌∷◌, map}
use native.Mathlib.Omega.{arith}
use borrow.Author.Tests.{eqb-true, eqb-false}
use lib.Dec.{T, eqb, leb, leb→le, lit≤}
use lib.ListN.{length, get_or, drop}
use Rattle.definition.specs.Choice.{pick, among}
use Rattle.definition.specs.Sheet.{Options, TypeEntry, Entry, Matrix, record_at, header_length, start_of, flags_of, options_of, entry_of, tag_rank}
use Rattle.definition.specs.Sheet.{available, remap, type, function, constant, global}
use Rattle.definition.specs.Tests.{Seen, fit, add, add_record, size_fits, float_width, inner_fits, values_fit, reading_test}
use Rattle.definition.specs.Rules.{no_entry, inner_at, column_stride, has_stride}
use Rattle.definition.specs.Unfit.{fitness_test}
use Rattle.definition.specs.Operations.{Progress, begin, record_test, declare_record, judged}
use Rattle.definition.specs.Strides.{row_counts, widths, stride_table, tabled, TableAgrees, FormulaWhereFit, StridesAsBefore}
use Rattle.definition.proofs.Truth.{true_is, both, first_passed}
use Rattle.definition.proofs.Lists.{get_or_snoc}
use Rattle.definition.proofs.Walk.{records_kept}
use Rattle.definition.proofs.Passing.{reading_passed}
use Rattle.definition.proofs.Records.{fit_ran}

-- ---- a matrix that test 10 lets through

pub formula_where_fit : FormulaWhereFit
formula_where_fit c r w h = rw (both (size_fits c) (has_stride r w) h).1

-- ---- the table

pub table_agrees : TableAgrees
table_agrees = refl

-- what holds of each of some numbers holds of one that is among them
abbrev Each : (ℕ → Type 0) → List ℕ → Type 0
Each P [] = Unit
Each P (k ∷ ks) = P k × Each P ks

of_one : (P : ℕ → Type 0) (ks : List ℕ) (x : ℕ) → among x ks ≡ true → Each P ks → P x
of_one P [] x h e = let z : ◌≡◌ {A = ℕ} 0 1 = cc in absurd (omega arith)
of_one P (k ∷ ks) x h e = go (eqb x k) refl h (λ g. of_one P ks x g e.1)
  where
    go : (b : Bool) → eqb x k ≡ b → pick b true (among x ks) ≡ true → (among x ks ≡ true → P x) → P x
    go true q g later = subst P (sym (eqb-true x k q)) e.0
    go false q g later = later g

-- "2 to 4", as bounds and one by one
size_bounds : (r : ℕ) → size_fits r ≡ true → (2 ≤ r) × (r ≤ 4)
size_bounds r h = let z = both (leb 2 r) (leb r 4) h in (leb→le 2 r (rw z.0 tt), leb→le r 4 (rw z.1 tt))

size_among : (r : ℕ) → size_fits r ≡ true → among r row_counts ≡ true
size_among r h = go (eqb r 2) (eqb r 3) (eqb r 4) refl refl refl
  where
    go : (a b c : Bool) → eqb r 2 ≡ a → eqb r 3 ≡ b → eqb r 4 ≡ c → pick a true (pick b true (pick c true false)) ≡ true
    go true b c i j k = refl
    go false true c i j k = refl
    go false false true i j k = refl
    go false false false i j k = let z = size_bounds r h in absurd (omega (arith, eqb-false r 2 i, eqb-false r 3 j, eqb-false r 4 k))

-- rows and width are within such a table
pub in_table : (r w : ℕ) → has_stride r w ≡ true → (2 ≤ r) × (r ≤ 4) × (w ≤ 8)
in_table r w h =
    let z = both (size_fits r) (float_width w) h in
    let y = size_bounds r z.0 in
    (y.0, y.1, of_one (λ (x : ℕ). x ≤ 8) widths w z.1 (lit≤ tt, (lit≤ tt, (lit≤ tt, tt))))

-- a number of a table stands in the line of its rows at the place of its width
tabled_at : (f : ℕ → ℕ → ℕ) (r w : ℕ) → has_stride r w ≡ true → get_or (get_or (tabled f) (r - 2) []) (w / 4) 0 ≡ f r w
tabled_at f r w h =
    of_one (λ (x : ℕ). get_or (get_or (tabled f) (x - 2) []) (w / 4) 0 ≡ f x w) row_counts r (size_among r z.0) (line 2, (line 3, (line 4, tt)))
  where
    z : (size_fits r ≡ true) × (float_width w ≡ true)
    z = both (size_fits r) (float_width w) h

    line : (x : ℕ) → get_or (map (f x) widths) (w / 4) 0 ≡ f x w
    line x = of_one (λ (y : ℕ). get_or (map (f x) widths) (y / 4) 0 ≡ f x y) widths w z.1 (refl, (refl, (refl, tt)))

pub stride_at : (r w : ℕ) → has_stride r w ≡ true → get_or (get_or stride_table (r - 2) []) (w / 4) 0 ≡ column_stride r w
stride_at r w h = subst (λ (t : List (List ℕ)). get_or (get_or t (r - 2) []) (w / 4) 0 ≡ column_stride r w) table_agrees (tabled_at column_stride r w h)

-- ---- the matrices of a fit sheet

-- every type that was read passes test 10
abbrev TypesFit : Seen → Type 0
TypesFit n = (t : ℕ) → T (inner_fits (inner_at n.types t))

entry_kept : (n : Seen) (k : ℕ) (e : Entry) → T (values_fit e) → TypesFit n → TypesFit (add n k e)
unfolding add
entry_kept n k (available cs) v h = h
entry_kept n k (remap m) v h = h
entry_kept n k (type x) v h = get_or_snoc (λ (y : TypeEntry). T (inner_fits y.inner)) n.types x no_entry h v
entry_kept n k (function f) v h = h
entry_kept n k (constant c) v h = h
entry_kept n k (global g) v h = h

-- nothing has to be known of what is left of the sheet
abbrev Any : List ℕ → Type 0
Any rest = Unit

record_kept : (o : Options) (rest : List ℕ) (p : Progress) → Any rest → record_test p (record_at rest) ≡ 0 → TypesFit p.seen → TypesFit (declare_record o p (record_at rest)).seen
unfolding record_test declare_record add_record
record_kept o rest p u t h =
    let r = record_at rest in
    let a = first_passed (reading_test p.seen r) (fitness_test p.seen p.state (entry_of r).value) t in
    entry_kept p.seen (tag_rank r.tag) (entry_of r).value (reading_passed p.seen r a.0).values h

types_fit : (s : List ℕ) (p : Progress) → judged s ≡ fit p → TypesFit p.seen
types_fit s p e =
    records_kept record_test (declare_record (options_of (flags_of s))) (λ (q : Progress). TypesFit q.seen) Any (λ rest u. tt) (record_kept (options_of (flags_of s))) (length s) (drop header_length s) (begin (start_of s)) p
    tt (λ t. tt) (fit_ran s p e).all

pub strides_as_before : StridesAsBefore
strides_as_before s p e t c r w m = formula_where_fit c r w (true_is (inner_fits (Matrix c r w)) (rw m at (types_fit s p e t)))
