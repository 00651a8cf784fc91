-- None was found, and what is left of the entries answers for all of them. A group or a binding that differs makes an entry another, and
-- the loop goes on; where neither differs, the entry is the one that was looked for.
use mathlib.Core.Bool.{false}
use mathlib.Core.List.{map}
use mathlib.Core.Path.{◌≡◌}
use lib.ListN.{drop}
use Rattle.definition.specs.Tests.{remap_read}
use Rattle.definition.specs.Sheet.{remap_fields}
use Rattle.records.specs.Places.{remaps_in, remap_from}
use Rattle.sheet.proofs.repeats.remap_read.Given as goal

abbrev pub invariant-entries : goal.invariant-entries
invariant-entries l = (l.read ≡ false) × (remap_read (remap_fields l.b).value (remaps_in l.remaps) ≡ remap_read (remap_fields l.b).value (map (remap_from l.remaps.sheet.now) (drop l.place-index l.remaps.places.now)))
