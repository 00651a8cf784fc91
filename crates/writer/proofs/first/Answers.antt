use Prim.Native.Nat.{◌+◌}
use mathlib.Core.Path.{refl, sym, ◌∙◌}
use mathlib.Core.List.{[]}
use native.Mathlib.Omega.{arith}
use Rattle.writer.proofs.Passing.{found, passed, found_last, passed_last, fits, left, none_left}
use Rattle.writer.proofs.first.Goals as goal

pub loop-four-preserved : goal.loop-four-preserved
loop-four-preserved g c =
    let i = c.loop-four.invariant in
    let s = c.in-Some.ensures.steps in
    let e = sym i.3 ∙ s.1.0 in
    let f = s.1.1 ∙ i.2 in (
      i.0 + 1,
      fits c.args.rows.now c.in-Some.four.now c.next.new.self.rest.now i.0 e f i.1,
      s.0 ∙ i.2,
      left c.args.rows.now c.in-Some.four.now c.next.new.self.rest.now i.0 e f i.1,
      λ t is. c.loop-row.invariant.1 t is ∙ none_left t c.in-Some.four.now c.next.new.self.rest.now c.loop-row.row-index c.loop-row-test.false,
    )

pub returns-then-passes : goal.returns-then-passes
returns-then-passes g c t is =
    sym (c.loop-row.invariant.1 t is ∙ found t c.in-Some.four.now c.next.new.self.rest.now c.loop-row.row-index c.row-item.result c.loop-row-test.true c.row-item.is
    (sym (is _ _ (record { shown = _; shows = refl; says = record { met = c.passes.ensures } })) ∙ c.if-passes.true))

pub loop-row-preserved : goal.loop-row-preserved
loop-row-preserved g c = (
  omega (arith, c.loop-row-test.true),
  λ t is.
      c.loop-row.invariant.1 t is ∙ passed t c.in-Some.four.now c.next.new.self.rest.now c.loop-row.row-index c.row-item.result c.loop-row-test.true c.row-item.is
      (sym (is _ _ (record { shown = _; shows = refl; says = record { met = c.passes.ensures } })) ∙ c.if-passes.false),
)

pub returns-then-passes-2 : goal.returns-then-passes-2
returns-then-passes-2 g c t is =
    sym (c.loop-row-2.invariant.1 t is ∙ found_last t c.remainder-rest.result.now [] c.loop-row-2.row-index c.row-item-in-loop-row-2.result c.loop-row-2-test.true c.row-item-in-loop-row-2.is
    (sym (is _ _ (record { shown = _; shows = refl; says = record { met = c.passes-in-loop-row-2.ensures } })) ∙ c.if-passes-2.true))

pub loop-row-2-preserved : goal.loop-row-2-preserved
loop-row-2-preserved g c = (
  omega (arith, c.loop-row-2-test.true),
  λ t is.
      c.loop-row-2.invariant.1 t is ∙ passed_last t c.remainder-rest.result.now [] c.loop-row-2.row-index c.row-item-in-loop-row-2.result c.loop-row-2-test.true c.row-item-in-loop-row-2.is
      (sym (is _ _ (record { shown = _; shows = refl; says = record { met = c.passes-in-loop-row-2.ensures } })) ∙ c.if-passes-2.false),
)
