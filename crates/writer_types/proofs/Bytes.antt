-- The bytes of a type's record pay for the entry: what an entry costs, with its key and its name, is no more than what a
-- record of that length may cost, tag by tag.
use Prim.Native.Nat.{ℕ, zero, suc, ◌+◌, ◌*◌, ◌≤◌}
use mathlib.Core.Path.{◌≡◌}
use mathlib.Core.Bool.{Bool, true, false}
use mathlib.Core.List.{List}
use Rattle.std.specs.Prelude.{Some, None}
use native.Mathlib.Omega.{arith}
use lib.Dec.{eqb}
use lib.ListN.{length, take, drop, length-take}
use Rattle.definition.specs.Bytes.{u8_at, name_at, name_end}
use Rattle.definition.specs.Choice.{pick}
use Rattle.definition.specs.Sheet.{Fields, TypeInner, type_fields, members_at, members_end}
use Rattle.definition.specs.Shapes.{Kind, Shape, Count, float, one, many, matrix, value_pointer, image, kind_of, storage_class, count_of, image_of, shape}
use Rattle.definition.proofs.Truth.{pick_for}
use Rattle.entries.specs.declared.types.TypeInner as Program
use Rattle.writer.specs.Cost.{Cost, a_type, naming, record_cost, ◌⊕◌}
use Rattle.finding.specs.Costs.{cost_of}
use Rattle.writer.proofs.Turns.{AtMost}
use Rattle.writer_types.specs.Costs.{name_length, weight, inner_cost}
use Rattle.writer_types.specs.Inner.{inner_in}
use Rattle.writer_types.specs.Tested.{TypeRead}
use Rattle.members.proofs.Laws.{how_many}

-- ---- names and members

name_bytes_lem : (b : List ℕ) (i : ℕ) → i + 1 + name_length (name_at b i) ≤ name_end b i
unfolding name_at name_end
name_bytes_lem b i = go (eqb (u8_at b i) 255)
  where
    go : (c : Bool) → i + 1 + name_length (pick c None (Some (take (u8_at b i) (drop (i + 1) b)))) ≤ pick c (i + 1) (i + 1 + u8_at b i)
    go true = omega arith
    go false = omega (arith, length-take (u8_at b i) (drop (i + 1) b))

member_bytes_lem : (b : List ℕ) (p k : ℕ) → p + weight (members_at b p k) ≤ members_end b p k
unfolding members_at members_end weight
member_bytes_lem b p zero = omega arith
member_bytes_lem b p (suc k) = omega (arith, name_bytes_lem b (p + 6), member_bytes_lem b (name_end b (p + 6)) k)

-- a member takes seven bytes at least
few : (b : List ℕ) (p k : ℕ) → 7 * k ≤ weight (members_at b p k)
unfolding members_at weight
few b p zero = omega arith
few b p (suc k) = omega (arith, few b (name_end b (p + 6)) k)

-- ---- shapes whose cost is not seen at once

pointer_cost_lem : (n : ℕ) (k : Kind) (c : ℕ) → AtMost (cost_of (shape (value_pointer (count_of n) k c))) (cost_of (shape (matrix 0 0 0)))
pointer_cost_lem n k c = let P : Count → Type 0 = λ m. AtMost (cost_of (shape (value_pointer m k c))) (cost_of (shape (matrix 0 0 0))) in pick_for P (eqb n 0) one (many n) (omega arith) (omega arith)

image_cost : (d a c x y : ℕ) → AtMost (cost_of (shape (image_of d a c x y))) (cost_of (shape (image (float 4) 0 0 0 0 0 0)))
unfolding image_of
image_cost d a c x y =
    let P : Shape → Type 0 = λ l. AtMost (cost_of (shape l)) (cost_of (shape (image (float 4) 0 0 0 0 0 0))) in
    pick_for P (eqb c 0) _ _ (omega arith) (pick_for P (eqb c 1) _ _ (omega arith) (omega arith))

-- ---- an entry, its key and its name

abbrev entry_cost : TypeInner → ℕ → Cost
entry_cost i n = inner_cost i ⊕ a_type ⊕ naming (n + 3)

type_bytes : (t : ℕ) (b : List ℕ) → (type_fields t b (name_end b 0)).end ≡ length b → AtMost (entry_cost (type_fields t b (name_end b 0)).value (name_length (name_at b 0))) (record_cost 1 (length b + 3))
unfolding type_fields
type_bytes t b =
    let at = name_end b 0 in
    let n = name_bytes_lem b 0 in
    let count = u8_at b (at + 4) in
    let m = member_bytes_lem b (at + 5) count in
    let l = how_many b (at + 5) count in
    let f = few b (at + 5) count in
    let p = pointer_cost_lem (u8_at b at) (kind_of (u8_at b (at + 1)) (u8_at b (at + 2))) (storage_class (u8_at b (at + 3))) in
    let i = image_cost (u8_at b at) (u8_at b (at + 1)) (u8_at b (at + 2)) (u8_at b (at + 3)) (u8_at b (at + 4)) in
    let P : Fields TypeInner → Type 0 = λ f. f.end ≡ length b → AtMost (entry_cost f.value (name_length (name_at b 0))) (record_cost 1 (length b + 3)) in
    pick_for P (eqb t 16) _ _ (λ e. omega (arith, e, n)) (pick_for P (eqb t 17) _ _ (λ e. omega (arith, e, n)) (pick_for P (eqb t 18) _ _ (λ e. omega (arith, e, n))
    (pick_for P (eqb t 19) _ _ (λ e. omega (arith, e, n)) (pick_for P (eqb t 20) _ _ (λ e. omega (arith, e, n)) (pick_for P (eqb t 21) _ _ (λ e. omega (arith, e, n, p))
    (pick_for P (eqb t 22) _ _ (λ e. omega (arith, e, n)) (pick_for P (eqb t 23) _ _ (λ e. omega (arith, e, n, m, l, f)) (pick_for P (eqb t 24) _ _ (λ e. omega (arith, e, n, i))
    (pick_for P (eqb t 25) _ _ (λ e. omega (arith, e, n)) (pick_for P (eqb t 26) _ _ (λ e. omega (arith, e, n)) (pick_for P (eqb t 27) _ _ (λ e. omega (arith, e, n))
    (λ e. omega (arith, e, n)))))))))))))

-- the same of a body that passed its tests
pub enough : (b : List ℕ) (t : Program.TypeInner) → TypeRead b t → AtMost (entry_cost (inner_in b t) (name_length (name_at b 0))) (record_cost 1 (length b + 3))
enough b t read = rw (read.taken read.tested.values) (type_bytes read.tag b read.tested.whole)
