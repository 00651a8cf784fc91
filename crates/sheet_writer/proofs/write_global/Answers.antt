-- What was taken from the body is its global, since test 10 passed: test 13 is of it, and it is declared at what its record pays.
use mathlib.Core.Bool.{not}
use mathlib.Core.Path.{refl, ap, subst}
use Rattle.definition.specs.Sheet.{Global}
use Rattle.records.specs.Places.{types_in}
use Rattle.records.proofs.Chain.{stop, go}
use Rattle.writer_globals.specs.Fitness.{TestsGlobal}
use Rattle.writer_globals.proofs.Whole.{as_read, record_room, record_kept}
use Rattle.sheet_writer.proofs.Comes.{refused, written}
use Rattle.sheet_writer.proofs.write_global.Goals as goal

pub returns-then-not-global_fits : goal.returns-then-not-global_fits
returns-then-not-global_fits c =
    let a = c.args in
    let f = c.global_fits in
    let e = as_read a.body.now c.requires.0 c.global_of-global.result c.global_of-global.ensures in
    let t = subst (λ (x : Global). TestsGlobal (types_in a.types) x a.w.now f.result f.new.memo) e (f.ensures a.body.now) in
    (refused _ _ _ _ (λ x h. stop _ _ 13 0 (t.held x h) (ap not c.if-not-global_fits.true)), t.memo)

pub write_global-requires : goal.write_global-requires
write_global-requires c = let p = c.requires in record_room c.args.body.now p.0 p.1.0

pub returns : goal.returns
returns c =
    let a = c.args in
    let f = c.global_fits in
    let e = as_read a.body.now c.requires.0 c.global_of-global.result c.global_of-global.ensures in
    let t = subst (λ (x : Global). TestsGlobal (types_in a.types) x a.w.now f.result f.new.memo) e (f.ensures a.body.now) in
    (written _ _ _ _ (λ x h. go _ _ 13 0 0 (t.held x h) (ap not c.if-not-global_fits.false) refl) (record_kept a.body.now c.requires.0 e c.write_global.ensures), t.memo)
