-- `fields::name_end`: the code's test of the length byte is the definition's, so each way out is rewritten by it;
-- the bounds are sums.
use borrow.Author.Tests.{eq-eqb, ne_eqb}
use borrow.Author.Rules.{rules}
use Rattle.definition.specs.Bytes.{name_end}
use Rattle.fields.proofs.name_end.Goals as goal

pub returns-then-n : goal.returns-then-n
unfolding name_end
returns-then-n c = record { value = simp (← c.u8_at-n.ensures, eq-eqb _ _ c.if-n.true); lower_bound = search rules }

pub returns-else-n : goal.returns-else-n
unfolding name_end
returns-else-n c = record { value = simp (← c.u8_at-n.ensures, ne_eqb _ _ c.if-n.false); lower_bound = search rules }
