-- What was taken from the body is its type, since test 10 passed: test 14 is of it, and it is declared.
use mathlib.Core.Bool.{not}
use mathlib.Core.Path.{ap, refl, sym}
use Rattle.definition.specs.Bytes.{name_end}
use Rattle.records.specs.Places.{type_of_record}
use Rattle.records.proofs.Chain.{go}
use Rattle.sheet_fields.specs.Fields.{record_of}
use Rattle.sheet_writer.proofs.Comes.{written}
use Rattle.sheet_writer.proofs.write_type.Goals as goal

pub returns : goal.returns
returns c =
    let a = c.args in
    let b = a.body.now in
    let e = c.inner_of-ty.ensures c.requires.1.0.values in
    written _ _ _ _ (λ o f. go _ _ 14 0 0 (c.type_fits.ensures o f b (name_end b 0) e) (ap not c.if-not-type_fits.false) refl)
    (c.write_type_declaration_arena.ensures (type_of_record (record_of a.tag b)) (record { name = refl; inner = sym e }))
