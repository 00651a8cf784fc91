-- `literals::f64_of_bits`: a pattern that passed the test is no NaN's, so it comes back from the float that is made of it.
use mathlib.Core.Path.{ap}
use borrow.Author.Rules.{rules}
use Rattle.std.proofs.lemmas.Float.{not_nan_f64_bits}
use Rattle.std.specs.Float.{binary64}
use Rattle.definition.specs.Literals.{f64}
use Rattle.literals.proofs.Patterns.{comes_back}
use Rattle.literals.proofs.f64_of_bits.Goals as goal

pub float_from_bits-result : goal.float_from_bits-result
float_from_bits-result c = not_nan_f64_bits _ (search rules)

pub returns-else-pattern-gt9218868437227405312 : goal.returns-else-pattern-gt9218868437227405312
returns-else-pattern-gt9218868437227405312 c = ap f64 (comes_back binary64 c.args.pattern (search rules) (not_nan_f64_bits _ (search rules)))
