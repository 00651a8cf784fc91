-- The operation's promise, its answer as a number (`list_exported`).
use native.Mathlib.Omega.{arith}
use Rattle.exports.proofs.Decoding.{length_fits, list_exported}
use Rattle.exports.proofs.voulkrod_list.Goals as goal

pub number_of_listing-requires : goal.number_of_listing-requires
number_of_listing-requires c =
    let a = c.args in
    let d = c.list in
    length_fits a.words.now a.list.now d.result _ (omega arith) d.ensures

pub returns : goal.returns
returns c = let d = c.list in list_exported _ _ d.result _ _ c.number_of_listing.ensures d.ensures
