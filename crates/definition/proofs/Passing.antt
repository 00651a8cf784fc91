-- What a record that passes the tests gives the rules: numbers that fit, since bytes are bytes, names that the reader takes for
-- strings (test 9), a Compose short enough (tests 1 and 8), and references to entries already read (test 11).
use Prim.Native.Nat.{ℕ, suc, zero, ◌+◌, ◌<◌, ◌≤◌}
use mathlib.Core.Path.{◌≡◌, refl, ap}
use mathlib.Core.List.{List, ◌++◌, Memᴰ}
use mathlib.Core.Bool.{true}
use native.Mathlib.Omega.{arith}
use lib.Dec.{T, eqb, ltb, ltb→lt, eqb→eq}
use lib.ListN.{length}
use Rattle.definition.specs.Choice.{every}
use Rattle.definition.specs.Bytes.{u8_at, u16_at, name_at, name_end}
use Rattle.definition.specs.Utf8.{name_fits}
use Rattle.definition.specs.Literals.{Literal}
use Rattle.definition.specs.Sheet.{Record, TypeInner, TypeEntry, Function, Expression, Global, Entry, Fields, u16s_at, members_at, type_fields, function_fields, form_of, literal_fields, constant_fields, global_fields, remap_fields, map_fields, type_entry, tag_rank, entry_of}
use Rattle.definition.specs.Sheet.{available, remap, type, function, constant, global}
use Rattle.definition.specs.Tests.{Seen, place_test, form_known, member_names, inner_names, names_of, values_fit, inner_types, expression_types, expression_constants, types_named, constants_named, init_list, below, read_already, entry_test, reading_test}
use Rattle.definition.proofs.Truth.{both_true, every_one, pick_for, first_passed, unless_passed}
use Rattle.definition.proofs.Sizes.{W, Under}
use Rattle.definition.proofs.Finding.{SmallLiteral}
use Rattle.definition.proofs.Marks.{GoodName}
use Rattle.definition.proofs.Inners.{GoodMembers, GoodInner}
use Rattle.definition.proofs.Values.{GoodExpression, GoodGlobal}
use Rattle.definition.proofs.Bounds.{u8_small, u32_small, u64_small, name_good}

-- ---- an entry that the rules may work on, given what was read before it

pub record GoodType (n : Seen) (t : TypeEntry) : Type 0 where
  pub name : GoodName t.name
  pub inner : GoodInner t.inner
  pub references : (b : ℕ) → Memᴰ b (inner_types t.inner) → b < length n.types

pub record GoodFunction (n : Seen) (f : Function) : Type 0 where
  pub few : length f.parameters ≤ 255
  pub types : (t : ℕ) → Memᴰ t (init_list f.result ++ f.parameters) → t < length n.types

pub record GoodConstant (n : Seen) (e : Expression) : Type 0 where
  pub good : GoodExpression e
  pub types : (t : ℕ) → Memᴰ t (expression_types e) → t < length n.types
  pub constants : (c : ℕ) → Memᴰ c (expression_constants e) → c < length n.constants

pub record GoodVariable (n : Seen) (g : Global) : Type 0 where
  pub good : GoodGlobal g
  pub type : g.type < length n.types
  pub init : (c : ℕ) → Memᴰ c (init_list g.init) → c < length n.constants

abbrev pub GoodEntry : Seen → Entry → Type 0
GoodEntry n (available cs) = Unit
GoodEntry n (remap m) = m.size ≤ W
GoodEntry n (type t) = GoodType n t
GoodEntry n (function f) = GoodFunction n f
GoodEntry n (constant e) = GoodConstant n e
GoodEntry n (global g) = GoodVariable n g

-- ---- what the tests say

below_in : (n : ℕ) (xs : List ℕ) → T (below n xs) → (x : ℕ) → Memᴰ x xs → x < n
below_in n xs t x m = ltb→lt x n (every_one (λ (y : ℕ). ltb y n) xs t x m)

pub record Passed (n : Seen) (r : Record) (e : Entry) (end : ℕ) : Type 0 where
  pub whole : end ≡ length r.body
  pub names : T (every name_fits (names_of e))
  pub values : T (values_fit e)
  pub types : (t : ℕ) → Memᴰ t (types_named e) → t < length n.types
  pub constants : (c : ℕ) → Memᴰ c (constants_named e) → c < length n.constants

entry_passed : (n : Seen) (r : Record) (e : Entry) (end : ℕ) → entry_test n r e end ≡ 0 → Passed n r e end
unfolding entry_test
entry_passed n r e end h =
    let a = unless_passed (form_known r) 9 _ h in
    let b = unless_passed (eqb end (length r.body)) 7 _ a.1 in
    let c = unless_passed (every name_fits (names_of e)) 8 _ b.1 in
    let d = unless_passed (values_fit e) 9 _ c.1 in
    let f = unless_passed (read_already n e) 10 _ d.1 in
    let g = both_true (below (length n.types) (types_named e)) (below (length n.constants) (constants_named e)) f.0 in
    record {
      whole = eqb→eq end (length r.body) b.0;
      names = c.0;
      values = d.0;
      types = below_in (length n.types) (types_named e) g.0;
      constants = below_in (length n.constants) (constants_named e) g.1;
    }

pub reading_passed : (n : Seen) (r : Record) → reading_test n r ≡ 0 → Passed n r (entry_of r).value (entry_of r).end
unfolding reading_test
reading_passed n r h = entry_passed n r (entry_of r).value (entry_of r).end (first_passed (place_test n r.tag) _ h).1

-- ---- the fields

members_good : (b : List ℕ) (p n : ℕ) → Under 255 b → T (every name_fits (member_names (members_at b p n))) → GoodMembers (members_at b p n)
unfolding members_at member_names
members_good b p zero u t = tt
members_good b p (suc n) u t =
    let q = both_true (name_fits (name_at b (p + 6))) (every name_fits (member_names (members_at b (name_end b (p + 6)) n))) t in
    ((u32_small b u (p + 2), name_good b (p + 6) u q.0), members_good b (name_end b (p + 6)) n u q.1)

pub members_count : (b : List ℕ) (p n : ℕ) → length (members_at b p n) ≡ n
unfolding members_at
members_count b p zero = refl
members_count b p (suc n) = ap suc (members_count b (name_end b (p + 6)) n)

parts_count : (b : List ℕ) (p n : ℕ) → length (u16s_at b p n) ≡ n
unfolding u16s_at
parts_count b p zero = refl
parts_count b p (suc n) = ap suc (parts_count b (p + 2) n)

abbrev InnerPasses : Fields TypeInner → Type 0
InnerPasses f = T (every name_fits (inner_names f.value)) → GoodInner f.value

abbrev LiteralPasses : Fields Literal → Type 0
LiteralPasses f = SmallLiteral f.value

module _ (r : Record) (u : Under 255 r.body) (few : length r.body ≤ 16384) where
  inner_passes : (t n : ℕ) → InnerPasses (type_fields t r.body n)
  unfolding type_fields
  inner_passes t n =
      pick_for InnerPasses (eqb t 16) _ _ (λ p. u8_small r.body u (n + 1))
      (pick_for InnerPasses (eqb t 17) _ _ (λ p. (u8_small r.body u n, u8_small r.body u (n + 2)))
      (pick_for InnerPasses (eqb t 18) _ _ (λ p. (u8_small r.body u n, u8_small r.body u (n + 1), u8_small r.body u (n + 2)))
      (pick_for InnerPasses (eqb t 19) _ _ (λ p. u8_small r.body u (n + 1))
      (pick_for InnerPasses (eqb t 20) _ _ (λ p. tt)
      (pick_for InnerPasses (eqb t 21) _ _ (λ p. (u8_small r.body u n, u8_small r.body u (n + 2)))
      (pick_for InnerPasses (eqb t 22) _ _ (λ p. (u32_small r.body u (n + 2), u32_small r.body u (n + 6)))
      (pick_for InnerPasses (eqb t 23) _ _ (λ p. (members_good r.body (n + 5) (u8_at r.body (n + 4)) u p, omega (arith, members_count r.body (n + 5) (u8_at r.body (n + 4)), u8_small r.body u (n + 4))))
      (pick_for InnerPasses (eqb t 24) _ _ (λ p. (u8_small r.body u (n + 1), u8_small r.body u (n + 4)))
      (pick_for InnerPasses (eqb t 25) _ _ (λ p. tt)
      (pick_for InnerPasses (eqb t 26) _ _ (λ p. tt)
      (pick_for InnerPasses (eqb t 27) _ _ (λ p. tt)
      (λ p. u32_small r.body u (n + 2)))))))))))))

  literal_passes : LiteralPasses (literal_fields r.body)
  unfolding literal_fields
  literal_passes =
      pick_for LiteralPasses (eqb (form_of r.body) 0) _ _ (u64_small r.body u 1)
      (pick_for LiteralPasses (eqb (form_of r.body) 1) _ _ (u32_small r.body u 1)
      (pick_for LiteralPasses (eqb (form_of r.body) 2) _ _ (u32_small r.body u 1)
      (pick_for LiteralPasses (eqb (form_of r.body) 3) _ _ (u32_small r.body u 1) tt)))

  abbrev ConstantPasses : Fields Expression → Type 0
  ConstantPasses f = f.end ≡ length r.body → GoodExpression f.value

  constant_passes : (t : ℕ) → ConstantPasses (constant_fields t r.body)
  unfolding constant_fields
  constant_passes t =
      pick_for ConstantPasses (eqb t 64) _ _ (λ w. literal_passes)
      (pick_for ConstantPasses (eqb t 65) _ _ (λ w. tt)
      (pick_for ConstantPasses (eqb t 66) _ _ (λ w. tt)
      (pick_for ConstantPasses (eqb t 67) _ _ (λ w. omega (arith, parts_count r.body 4 (u16_at r.body 2)))
      (λ w. u8_small r.body u 0))))

  -- ---- the entry

  module _ (n : Seen) where
    abbrev EntryPasses : Fields Entry → Type 0
    EntryPasses f = Passed n r f.value f.end → GoodEntry n f.value

    pub entry_good : EntryPasses (entry_of r)
    unfolding entry_of remap_fields function_fields global_fields
    entry_good =
        pick_for EntryPasses (eqb (tag_rank r.tag) 1) _ _ (λ p. tt)
        (pick_for EntryPasses (eqb (tag_rank r.tag) 2) _ _ (λ p. u32_small r.body u 8)
        (pick_for EntryPasses (eqb (tag_rank r.tag) 3) _ _ typed
        (pick_for EntryPasses (eqb (tag_rank r.tag) 4) _ _ (λ p. record { few = omega (arith, parts_count r.body 3 (u8_at r.body 2), u8_small r.body u 2); types = p.types })
        (pick_for EntryPasses (eqb (tag_rank r.tag) 5) _ _ (λ p. record { good = constant_passes r.tag p.whole; types = p.types; constants = p.constants })
        (λ p. record {
          good = record { name = name_good r.body 0 u (both_true (name_fits (name_at r.body 0)) true p.names).0; group = u32_small r.body u (name_end r.body 0 + 5); binding = u32_small r.body u (name_end r.body 0 + 9) };
          type = p.types (u16_at r.body (name_end r.body 0)) (Memᴰ.head refl);
          init = p.constants;
        })))))
      where
        typed : EntryPasses (map_fields (λ i. type (type_entry r i)) (type_fields r.tag r.body (name_end r.body 0)))
        typed p =
            let f = type_fields r.tag r.body (name_end r.body 0) in
            let q = both_true (name_fits (name_at r.body 0)) (every name_fits (inner_names f.value)) p.names in
            record { name = name_good r.body 0 u q.0; inner = inner_passes r.tag (name_end r.body 0) q.1; references = p.types }
