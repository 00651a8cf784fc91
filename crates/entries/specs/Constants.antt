-- A constant of the program as the definition's constant, of the body b: a Compose's parts stand there.
use Rattle.std.specs.Prelude.{ℕ, ◌≡◌, true, List}
use Rattle.definition.specs.Sheet.{u16s_at, constant_fields}
use Rattle.definition.specs.Tests.{expression_fits}
use Rattle.literals.specs.Forms.{literal_of}
use Rattle.entries.specs.declared.constants.Expression.{Expression}
use Rattle.entries.specs.declared.constants.Expression.TheVariants.{Literal, Constant, ZeroValue, Compose, Splat}
use Rattle.definition.specs.Sheet as Defined

abbrev pub expression_of : List ℕ → Expression → Defined.Expression
expression_of b (Literal l) = Defined.Value (literal_of l)
expression_of b (Constant c) = Defined.Alias c
expression_of b (ZeroValue t) = Defined.ZeroValue t
expression_of b (Compose t n) = Defined.Compose t (u16s_at b 4 n)
expression_of b (Splat n c) = Defined.Splat n c

-- what was taken for the constant of tag t is that constant, if its fields pass test 10
abbrev pub ConstantTaken : ℕ → List ℕ → Expression → Type 0
ConstantTaken t b e = expression_fits (constant_fields t b).value ≡ true → expression_of b e ≡ (constant_fields t b).value
