-- What tests 8, 10 and 11 tell of a constant's record.
use Rattle.std.specs.Prelude.{ℕ, ◌<◌, ◌≡◌, true, length}
use Rattle.definition.specs.Sheet.{Record, Fields, Expression, constant_fields}
use Rattle.definition.specs.Tests.{expression_fits, expression_types, below}

-- the fields of a constant's record
abbrev pub fields_of : Record → Fields Expression
fields_of r = constant_fields r.tag r.body

-- they end where the body ends, they have values that they may have, and the types that they name are among the first n;
-- a body is at most what a 16-bit length says
pub record ConstantTested (n : ℕ) (r : Record) : Type 0 where
  pub whole : (fields_of r).end ≡ length r.body
  pub values : expression_fits (fields_of r).value ≡ true
  pub types : below n (expression_types (fields_of r).value) ≡ true
  pub small : length r.body < 65536
