-- The operation's promise, its answer as a number (`wrapped_exported`).
use Rattle.exports.proofs.Decoding.{wrapped_exported}
use Rattle.exports.proofs.voulkrod_wrapped.Goals as goal

pub returns : goal.returns
returns c = let d = c.wrapped in wrapped_exported _ _ d.result _ c.number_of_wrapping.ensures d.ensures
