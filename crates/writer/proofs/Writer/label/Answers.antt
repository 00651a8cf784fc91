-- A name's bytes make words, so only the id is taken as a word.
use Rattle.std.proofs.Common.{rules}
use Prim.Native.Nat.{◌+◌}
use native.Mathlib.Omega.{arith}
use lib.ListN.{length}
use Rattle.definition.specs.Instructions.{words, name}
use Rattle.spirv.specs.Ids.{low}
use Rattle.writer.specs.Regions.{names}
use Rattle.writer.proofs.Spelt.{room_for}
use Rattle.writer.proofs.Names.{is_name}
use Rattle.writer.proofs.Writer.label.Goals as goal

pub put_name-requires-clause-room : goal.put_name-requires-clause-room
put_name-requires-clause-room c = let a = c.args in
    (words (name (low a.target) a.bytes.now), (λ s n t k. search rules), room_for names (is_name a.target a.bytes.now c.requires.0 (λ i. omega (arith, c.type_inv.bytes i))) c.requires.1)

pub returns : goal.returns
returns c = let a = c.args in
    c.put_name.ensures (name a.target a.bytes.now) (length a.bytes.now + 3) (words (name (low a.target) a.bytes.now)) (λ s n t k. search rules) (is_name a.target a.bytes.now c.requires.0 (λ i. omega (arith, c.type_inv.bytes i))) c.requires.1
