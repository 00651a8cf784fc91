-- The operation's promise, its answer as a number (`declare_exported`).
use Rattle.exports.proofs.Decoding.{declare_exported}
use Rattle.exports.proofs.voulkrod_declare.Goals as goal

pub returns : goal.returns
returns c = let d = c.declare in declare_exported _ _ d.result _ _ c.number_of_answer.ensures d.ensures
