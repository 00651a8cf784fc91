-- Each way out and the turn is one law of Loop; what is held is of the sheet that was given.
use Rattle.sheet_writer.proofs.Loop.{still_held, written_in, begins, same_room, fits, four, ready, refuses, passed, turns}
use Rattle.sheet_writer.specs.Turning.{ReadyIn}
use Rattle.definition.specs.Sheet.{record_at}
use Rattle.sheet.specs.Hash.{HashFor}
use Rattle.sheet.specs.Holding.{places_in, PassedAt, RecordHeld}
use Rattle.records.specs.Places.{record_from}
use Prim.Native.Nat.{ℕ}
use native.Mathlib.Omega.{arith}
use mathlib.Core.Path.{◌≡◌, refl, sym, ◌∙◌, subst}
use Rattle.std.proofs.Common.{rules}
use Rattle.std.specs.Prelude.{Err}
use mathlib.Core.List.{List}
use Rattle.sheet_writer.proofs.write_sheet.Goals as goal

pub loop-at-init : goal.loop-at-init
loop-at-init c = let a = c.args in (
  record { sheet = refl; remaps = refl; types = refl; constants = refl; globals = refl; remaps_long = refl; types_long = refl; constants_long = refl; globals_long = refl },
  begins a.held.now.sheet.now a.memo.now (places_in a.held.now) c.u32_at.result c.nothing-held.result c.everything-available.result a.w.now c.reset.new.self
      (sym c.in_ok-header_test.ensures) c.requires.1 c.requires.0.memo c.nothing-held.ensures c.everything-available.ensures c.u32_at.ensures (omega arith) c.reset.ensures,
)

pub returns-then-no_record-clause-written : goal.returns-then-no_record-clause-written
returns-then-no_record-clause-written c = let a = c.args in let l = c.loop-at in
    four a.held.now.sheet.now c.reset.new.self a.memo.now l.memo (places_in l.held) l.at l.held.counts l.available l.w l.invariant.1 (same_room c.reset.ensures c.requires.0) (sym c.in_ok-header_test.ensures)
    c.loop-at-test.true c.rest_at-rest.result.now c.rest_at-rest.ensures (sym c.no_record.ensures ∙ c.if-no_record.true)

pub write_record-requires : goal.write_record-requires
write_record-requires c = let a = c.args in let l = c.loop-at in
    subst (λ (s : List ℕ). ReadyIn s l.held.remaps.now l.held.types.now l.held.counts c.rest_at-rest.result.now c.hash_at-hash.result l.memo l.w) (sym l.invariant.0.sheet)
    (ready a.held.now.sheet.now c.reset.new.self a.memo.now l.memo (places_in l.held) l.at l.held.counts l.available l.w l.invariant.1 (same_room c.reset.ensures c.requires.0) (sym c.in_ok-header_test.ensures)
    c.loop-at-test.true c.rest_at-rest.result.now c.rest_at-rest.ensures (sym c.no_record.ensures ∙ c.if-no_record.false) c.hash_at-hash.result c.hash_at-hash.ensures)

pub returns-in_err-write_record-clause-written : goal.returns-in_err-write_record-clause-written
returns-in_err-write_record-clause-written c = let a = c.args in let l = c.loop-at in let t = c.write_record in
    let r = c.in_err-write_record.field-0.0 in
    let f : c.from_residual-in_err-write_record.result ≡ Err r = search rules in
    rw f (
    refuses a.held.now.sheet.now c.reset.new.self a.memo.now l.memo (places_in l.held) l.at l.held.counts l.available l.w l.invariant.1 (same_room c.reset.ensures c.requires.0) (sym c.in_ok-header_test.ensures)
    c.loop-at-test.true c.rest_at-rest.result.now c.rest_at-rest.ensures (sym c.no_record.ensures ∙ c.if-no_record.false)
    t.result t.new.w t.new.memo (written_in l.held l.available c.rest_at-rest.result.now l.invariant.0.sheet c.options_of-options.ensures t.ensures) r c.in_err-write_record.was)

pub hold-requires : goal.hold-requires
hold-requires c = let a = c.args in let l = c.loop-at in let t = c.write_record in
    subst (λ (s : List ℕ). PassedAt s (places_in l.held) l.held.counts l.at × HashFor (record_from s l.at) c.hash_at-hash.result) (sym l.invariant.0.sheet) (
      passed a.held.now.sheet.now c.reset.new.self a.memo.now l.memo (places_in l.held) l.at l.held.counts l.available l.w l.invariant.1 (same_room c.reset.ensures c.requires.0) (sym c.in_ok-header_test.ensures)
          c.loop-at-test.true c.rest_at-rest.result.now c.rest_at-rest.ensures (sym c.no_record.ensures ∙ c.if-no_record.false)
          t.result t.new.w t.new.memo
          (written_in l.held l.available c.rest_at-rest.result.now l.invariant.0.sheet c.options_of-options.ensures t.ensures)
          c.in_ok-write_record.was,
      subst (λ (r : List ℕ). HashFor (record_at r) c.hash_at-hash.result) c.rest_at-rest.ensures c.hash_at-hash.ensures,
    )

pub loop-at-preserved : goal.loop-at-preserved
loop-at-preserved c = let a = c.args in let l = c.loop-at in let t = c.write_record in let h = c.hold in (
  still_held l.invariant.0 h.ensures.same,
  turns a.held.now.sheet.now c.reset.new.self a.memo.now l.memo (places_in l.held) l.at l.held.counts l.available l.w l.invariant.1 (same_room c.reset.ensures c.requires.0) (sym c.in_ok-header_test.ensures)
      c.loop-at-test.true c.rest_at-rest.result.now c.rest_at-rest.ensures (sym c.no_record.ensures ∙ c.if-no_record.false)
      t.result t.new.w t.new.memo
      (written_in l.held l.available c.rest_at-rest.result.now l.invariant.0.sheet c.options_of-options.ensures t.ensures)
      c.in_ok-write_record.was
      (places_in h.new.self) h.new.self.counts c.behind-available.result c.next_place-at.result
      (subst (λ (s : List ℕ). RecordHeld s (places_in l.held) l.held.counts l.at (places_in h.new.self) h.new.self.counts) l.invariant.0.sheet h.ensures.held)
      c.behind-available.ensures c.next_place-at.ensures t.auto.memo,
)

pub returns-clause-written : goal.returns-clause-written
returns-clause-written c = let a = c.args in let l = c.loop-at in
    fits a.held.now.sheet.now c.reset.new.self a.memo.now l.memo (places_in l.held) l.at l.held.counts l.available l.w l.invariant.1 (same_room c.reset.ensures c.requires.0) (sym c.in_ok-header_test.ensures) a.w.now c.reset.ensures c.loop-at-test.false
