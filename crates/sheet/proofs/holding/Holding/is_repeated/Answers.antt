-- The slice of the hashes has those of the types that are held; and a record that is a type has the hash that is given for it.
use borrow.Author.Rules.{rules}
use Rattle.sheet.proofs.Hashes.{hashes_of}
use Rattle.sheet.proofs.holding.Holding.is_repeated.Goals as goal

pub type_read-requires : goal.type_read-requires
type_read-requires c =
    let a = c.args in
    let h = a.self.now in
    let kept = c.requires.0 in (
      hashes_of c.types.result h.sheet.now h.types.now c.hashes.result.now h.counts.types kept.types kept.hashed c.types.ensures.0 c.types.ensures.1 c.hashes.ensures,
      search rules,
    )
