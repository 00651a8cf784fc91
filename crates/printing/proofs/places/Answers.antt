-- `places`: the code's tests are the definition's.
use borrow.Author.Tests.{lt-ltb, le-ltb}
use borrow.Author.Rules.{rules}
use Rattle.printing.proofs.places.Goals as goal

pub returns-then-n-lt10 : goal.returns-then-n-lt10
returns-then-n-lt10 c = record { value = simp (lt-ltb _ _ c.if-n-lt10.true); upper_bound = search rules }

pub returns-then-n-lt100 : goal.returns-then-n-lt100
returns-then-n-lt100 c = record { value = simp (le-ltb _ _ c.if-n-lt10.false, lt-ltb _ _ c.if-n-lt100.true); upper_bound = search rules }

pub returns-else-n-lt100 : goal.returns-else-n-lt100
returns-else-n-lt100 c = record { value = simp (le-ltb _ _ c.if-n-lt10.false, le-ltb _ _ c.if-n-lt100.false); upper_bound = search rules }
