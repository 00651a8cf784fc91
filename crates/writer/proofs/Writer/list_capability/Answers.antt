-- None, one that is listed already, and one more: each as the definition lists it.
use mathlib.Core.Path.{sym, ◌∙◌}
use Rattle.writer.proofs.Words.{lists_none, lists_old, lists_new}
use Rattle.writer.proofs.Writer.list_capability.Goals as goal

pub returns-in_default : goal.returns-in_default
returns-in_default g c = rw c.in_default.is (lists_none c.args.self.now)

pub returns-then-is_listed : goal.returns-then-is_listed
returns-then-is_listed g c = rw (c.in-Some.is, ← c.word-number.ensures) (lists_old c.args.self.now c.word-number.result (sym c.is_listed.ensures ∙ c.if-is_listed.true))

pub returns : goal.returns
returns g c = rw (c.in-Some.is, ← c.word-number.ensures) (lists_new c.args.self.now c.word-number.result (sym c.is_listed.ensures ∙ c.if-is_listed.false))
