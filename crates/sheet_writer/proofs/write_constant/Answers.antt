-- What was taken from the body is its constant, since test 10 passed: test 13 is of it, and it is declared at what its record pays.
use mathlib.Core.Path.{ap, refl, sym, subst}
use mathlib.Core.Bool.{not}
use lib.ListN.{length}
use Rattle.definition.specs.Sheet.{Expression}
use Rattle.records.specs.Places.{types_in}
use Rattle.records.proofs.Chain.{go}
use Rattle.sheet_fields.specs.Fields.{record_of}
use Rattle.writer.specs.Held.{Room}
use Rattle.writer_constants.specs.Entered.{expression_cost, FewParts, ConstantWritten}
use Rattle.writer_constants.specs.Fitting.{TestsConstant}
use Rattle.writer_constants.proofs.Records.{few, roomy, written, is_taken}
use Rattle.sheet_writer.proofs.Comes.{written as comes}
use Rattle.sheet_writer.proofs.write_constant.Goals as goal

pub write_constant_expr-requires : goal.write_constant_expr-requires
write_constant_expr-requires c =
    let a = c.args in
    let p = c.requires in
    let n = length a.types.places.now in
    let r = record_of a.tag a.body.now in
    let q = is_taken n r p.0 c.expression_of-expr.result c.expression_of-expr.ensures in (
      subst FewParts (sym q) (few n r p.0),
      subst (λ (x : Expression). Room (expression_cost x) a.w.now) (sym q) (roomy n r p.0 a.w.now p.1.0),
    )

pub returns : goal.returns
returns c =
    let a = c.args in
    let n = length a.types.places.now in
    let r = record_of a.tag a.body.now in
    let f = c.expression_fits in
    let x = c.write_constant_expr in
    let ts = types_in a.types in
    let q = is_taken n r c.requires.0 c.expression_of-expr.result c.expression_of-expr.ensures in
    let t = subst (λ (y : Expression). TestsConstant ts y a.w.now f.result) q f.ensures.0 in (
      comes _ _ _ _ (λ y h. go _ _ 13 0 0 (t y h) (ap not c.if-not-expression_fits.false) refl)
          (written n r c.requires.0 ts a.w.now x.new.w
          (subst (λ (y : Expression). ConstantWritten (expression_cost y) ts y a.w.now x.new.w) q x.ensures)),
      f.ensures.1,
    )
