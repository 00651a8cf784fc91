-- `literals::f32_of_bits`: a pattern that passed the test is no NaN's, so it comes back from the float that is made of it.
use mathlib.Core.Path.{ap}
use borrow.Author.Rules.{rules}
use Rattle.std.proofs.lemmas.Float.{not_nan_f32_bits}
use Rattle.std.specs.Float.{binary32}
use Rattle.definition.specs.Literals.{f32}
use Rattle.literals.proofs.Patterns.{comes_back}
use Rattle.literals.proofs.f32_of_bits.Goals as goal

pub float_from_bits-result : goal.float_from_bits-result
float_from_bits-result c = not_nan_f32_bits _ (search rules)

pub returns-else-pattern-gt2139095040 : goal.returns-else-pattern-gt2139095040
returns-else-pattern-gt2139095040 c = ap f32 (comes_back binary32 c.args.pattern (search rules) (not_nan_f32_bits _ (search rules)))
