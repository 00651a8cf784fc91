-- There are as many parts as are wanted, so that what is left is the test of each against the type's id.
use mathlib.Core.Path.{refl, ◌∙◌}
use lib.ListN.{length}
use borrow.Author.Tests.{eq-eqb}
use Rattle.definition.specs.Sheet.{u16s_at}
use Rattle.fields.proofs.Numbers.{u16s_length}
use Rattle.writer_constants.specs.Fitting.{all_of}
use Rattle.writer_constants.proofs.fitness.each_fits.Goals as goal

pub returns : goal.returns
returns c = λ s h.
    let a = c.args in
    let cs = u16s_at a.b.now 4 a.n in
    let id = c.type_id-id.ensures s h in
    c.all_of_type.ensures s h ∙ (λ j. all_of s (id j) cs) ∙ rw (eq-eqb (length cs) a.size (u16s_length a.b.now 4 a.n ∙ c.if-n-size.false)) refl
