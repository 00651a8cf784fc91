use lib.ListN.{get_or, length}
use native.Mathlib.Omega.{arith}
use mathlib.Core.Path.{◌≡◌, refl, sym, ap, ◌∙◌}
use Prim.Native.Nat.{ℕ, suc, ◌≤◌, ◌+◌, ◌-◌, ◌*◌, ◌<◌}
use Rattle.std.specs.Prelude.{Some}
use Rattle.writer.specs.Rows.{part, same_list, seek_parts}
use Rattle.writer.proofs.Search.{cell, pieces_length}
use Rattle.writer.proofs.Parts.{list_length, part_length, parts_over, parts_ended, parts_hit, other_key, other_parts}
use Rattle.writer.proofs.seek_parts.Goals.{else-row-key-via-then-row-key+then-count-m+else-same_parts, else-row-key-via-then-row-key+else-count-m, else-row-key-via-else-row-key}
use Rattle.writer.proofs.seek_parts.Goals as goal

pub returns-then-q-at : goal.returns-then-q-at
returns-then-q-at c =
    let a = c.args in let T = a.tables.now in let s = c.loop-row in let i = s.row-index in let p = a.start + 3 * i in
    let few : i < a.n = omega (arith, c.loop-row-test.true, ap length s.invariant.1, pieces_length T a.start a.n) in
    let count = cell T a.start a.n i 1 (p + 1) c.as_chunks.result.0.now s.invariant.1 few (omega arith) refl in
    sym (s.invariant.3 ∙ parts_over a.key (part T a.q a.m) a.q T p s.at (a.n - i) (omega (arith, few)) (omega (arith, count, c.if-q-at.true)))

pub returns-then-same_parts : goal.returns-then-same_parts
returns-then-same_parts c =
    let a = c.args in let T = a.tables.now in let s = c.loop-row in let i = s.row-index in let p = a.start + 3 * i in let rows = c.as_chunks.result.0.now in
    let few : i < a.n = omega (arith, c.loop-row-test.true, ap length s.invariant.1, pieces_length T a.start a.n) in
    let key = cell T a.start a.n i 0 p rows s.invariant.1 few (omega arith) (omega arith) in
    let count = cell T a.start a.n i 1 (p + 1) rows s.invariant.1 few (omega arith) refl in
    let id = cell T a.start a.n i 2 (p + 2) rows s.invariant.1 few (omega arith) refl in
    sym (s.invariant.3 ∙ parts_hit a.key (part T a.q a.m) a.q T p s.at (a.n - i) (a.n - (i + 1)) (omega (arith, few)) (omega (arith, count, c.if-q-at.false)) (sym key ∙ c.if-row-key.true)
    (ap (λ (k : ℕ). same_list (part T s.at k) (part T a.q a.m)) (sym count ∙ c.if-count-m.true) ∙ sym c.same_parts.ensures ∙ c.if-same_parts.true) ∙ ap Some (sym id))

pub loop-row-preserved : goal.loop-row-preserved
loop-row-preserved c =
    let a = c.args in let T = a.tables.now in let s = c.loop-row in let i = s.row-index in let p = a.start + 3 * i in let rows = c.as_chunks.result.0.now in
    let few : i < a.n = omega (arith, c.loop-row-test.true, ap length s.invariant.1, pieces_length T a.start a.n) in
    let key = cell T a.start a.n i 0 p rows s.invariant.1 few (omega arith) (omega arith) in
    let count = cell T a.start a.n i 1 (p + 1) rows s.invariant.1 few (omega arith) refl in
    let ps = part T a.q a.m in
    let l = get_or T (p + 1) 0 in
    let next : a.n - i ≡ suc (a.n - (i + 1)) = omega (arith, few) in
    let within : l ≤ a.q - s.at = omega (arith, count, c.if-q-at.false) in
    let place : p + 3 ≡ a.start + 3 * (i + 1) = omega arith in
    let other : seek_parts a.key ps a.q T p s.at (a.n - i) ≡ seek_parts a.key ps a.q T (p + 3) (s.at + l) (a.n - (i + 1)) =
    elim c.else-row-key.branch [
      | else-row-key-via-then-row-key+then-count-m+else-same_parts w ↦ other_parts a.key ps a.q T p s.at (a.n - i) (a.n - (i + 1)) next within
          (ap (λ (k : ℕ). same_list (part T s.at k) ps) (sym count ∙ w.if-count-m.true) ∙ sym w.same_parts.ensures ∙ w.if-same_parts.false)
      | else-row-key-via-then-row-key+else-count-m w ↦ other_parts a.key ps a.q T p s.at (a.n - i) (a.n - (i + 1)) next within
          (list_length (part T s.at l) ps (λ z. w.if-count-m.false (count ∙ sym (part_length T s.at l (omega (arith, within, s.invariant.2, c.requires))) ∙ z ∙ part_length T a.q a.m (omega (arith, c.requires)))))
      | else-row-key-via-else-row-key w ↦ other_key a.key ps a.q T p s.at (a.n - i) (a.n - (i + 1)) next within (λ e. w.if-row-key.false (key ∙ e))
    ] in (
      omega (arith, few),
      s.invariant.1,
      omega (arith, count, within, s.invariant.2),
      s.invariant.3 ∙ other ∙ (λ j. seek_parts a.key ps a.q T (place j) (s.at + sym count j) (a.n - (i + 1))),
    )

pub returns : goal.returns
returns c =
    let a = c.args in let T = a.tables.now in let s = c.loop-row in
    sym (s.invariant.3 ∙ parts_ended a.key (part T a.q a.m) a.q T (a.start + 3 * s.row-index) s.at (a.n - s.row-index) (omega (arith, c.loop-row-test.false, ap length s.invariant.1, pieces_length T a.start a.n)))
