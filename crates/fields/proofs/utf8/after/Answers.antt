-- `fields::utf8::after`: a byte within the first range leaves tails to come, one fewer than were left.
use Rattle.std.proofs.Common.{arith, ◌≤◌}
use Rattle.std.proofs.lemmas.Grind.{common_steps}
use Rattle.fields.proofs.Octets.{fitting}
use Rattle.fields.proofs.utf8.after.Goals as goal

pub returns-then-contains : goal.returns-then-contains
returns-then-contains c =
    let low : c.args.p.low ≤ c.args.b = grind (arith, common_steps) in
    let high : c.args.b ≤ c.args.p.high = grind (arith, common_steps) in
    fitting _ _ _ _ c.if-p-eq0.false low high
