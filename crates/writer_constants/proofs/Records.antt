-- A constant's record has the bytes for what the constant costs, and for no more parts than an instruction can have. Each tag
-- is looked at once: the body is as long as its fields, and a Splat's size is at most 4.
use Prim.Native.Nat.{ℕ, ◌+◌, ◌≤◌, ◌<◌}
use mathlib.Core.Path.{◌≡◌}
use mathlib.Core.Bool.{true}
use mathlib.Core.List.{List}
use native.Mathlib.Omega.{arith}
use lib.Dec.{eqb, leb}
use lib.ListN.{length}
use borrow.Author.Tests.{leb-true}
use Rattle.definition.specs.Bytes.{u8_at, u16_at}
use Rattle.definition.specs.Literals.{Literal}
use Rattle.definition.specs.Sheet.{Record, Fields, TypeEntry, Expression, form_of, literal_fields, constant_fields}
use Rattle.definition.specs.Tests.{expression_fits}
use Rattle.definition.proofs.Truth.{pick_for, both}
use Rattle.entries.specs.Constants.{expression_of, ConstantTaken}
use Rattle.entries.specs.declared.constants.Expression as Read
use Rattle.writer.specs.declared.Writer.{Writer}
use Rattle.writer.specs.Cost.{record_cost}
use Rattle.writer.specs.Held.{Room}
use Rattle.writer.proofs.Turns.{AtMost, grown_within, room_within}
use Rattle.writer_constants.specs.Entered.{expression_cost, FewParts, ConstantWritten}
use Rattle.writer_constants.specs.Tested.{fields_of, ConstantTested}
use Rattle.fields.proofs.Numbers.{u16s_length}

-- ---- by the tag

module _ (b : List ℕ) where
  abbrev Priced : Fields Expression → Type 0
  Priced f = f.end ≡ length b → expression_fits f.value ≡ true → length b < 65536 → AtMost (expression_cost f.value) (record_cost 0 (length b + 3)) × FewParts f.value

  -- a form byte, and one byte more at least
  two_bytes : 2 ≤ (literal_fields b).end
  unfolding literal_fields
  two_bytes =
      let P : Fields Literal → Type 0 = λ f. 2 ≤ f.end in
      pick_for P (eqb (form_of b) 0) _ _ (omega arith) (pick_for P (eqb (form_of b) 1) _ _ (omega arith) (pick_for P (eqb (form_of b) 2) _ _ (omega arith)
      (pick_for P (eqb (form_of b) 3) _ _ (omega arith) (omega arith))))

  priced : (t : ℕ) → Priced (constant_fields t b)
  unfolding constant_fields
  priced t =
      pick_for Priced (eqb t 64) _ _ (λ e v l. (omega (arith, two_bytes), tt))
      (pick_for Priced (eqb t 65) _ _ (λ e v l. (omega arith, tt))
      (pick_for Priced (eqb t 66) _ _ (λ e v l. (omega arith, tt))
      (pick_for Priced (eqb t 67) _ _ (λ e v l. let q = u16s_length b 4 (u16_at b 2) in (omega arith, omega arith))
      (λ e v l. let q = leb-true (u8_at b 0) 4 (both (leb 2 (u8_at b 0)) (leb (u8_at b 0) 4) v).1 in (omega arith, tt)))))

-- ---- of a tested record

module _ (n : ℕ) (r : Record) (t : ConstantTested n r) where
  cheap : AtMost (expression_cost (fields_of r).value) (record_cost 0 (length r.body + 3)) × FewParts (fields_of r).value
  cheap = priced r.body r.tag t.whole t.values t.small

  pub few : FewParts (fields_of r).value
  few = cheap.1

  pub roomy : (w : Writer) → Room (record_cost 0 (length r.body + 3)) w → Room (expression_cost (fields_of r).value) w
  roomy w h = room_within cheap.0 h

  pub written : (ts : List TypeEntry) (w v : Writer) → ConstantWritten (expression_cost (fields_of r).value) ts (fields_of r).value w v → ConstantWritten (record_cost 0 (length r.body + 3)) ts (fields_of r).value w v
  written ts w v h = record { grown = grown_within cheap.0 h.grown; held = h.held }

  -- what was taken for the constant is the constant
  pub is_taken : (e : Read.Expression) → ConstantTaken r.tag r.body e → expression_of r.body e ≡ (fields_of r).value
  is_taken e h = h t.values
