-- The operation's promise, its answer as a number (`check_exported`).
use Rattle.exports.proofs.Decoding.{check_exported}
use Rattle.exports.proofs.voulkrod_check.Goals as goal

pub returns : goal.returns
returns c = let d = c.check in check_exported _ d.result _ c.number_of_verdict.ensures d.ensures
