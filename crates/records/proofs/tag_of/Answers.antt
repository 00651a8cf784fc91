-- The tag is the byte behind the length.
use Rattle.definition.specs.Sheet.{record_at}
use Rattle.records.proofs.tag_of.Goals as goal

pub returns : goal.returns
unfolding record_at
returns c = c.u8_at.ensures
