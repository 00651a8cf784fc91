-- What is left of the entries answers for all, as long as none was found. A hash, a tag or a body that differs makes an
-- entry another; one whose body is the same is the one.
use Prim.Native.Nat.{◌-◌, ◌≤◌}
use mathlib.Core.List.{map}
use mathlib.Core.Bool.{false}
use mathlib.Core.Path.{◌≡◌}
use lib.ListN.{length, drop}
use Rattle.definition.specs.Tests.{type_read}
use Rattle.records.specs.Places.{types_in, type_from}
use Rattle.sheet_fields.specs.Fields.{record_of}
use Rattle.sheet.proofs.repeats.type_read.Given as goal

abbrev pub invariant-loop-p : goal.invariant-loop-p
invariant-loop-p l = l.p ≤ length l.b

abbrev pub decreases-loop-p : goal.decreases-loop-p
decreases-loop-p l = length l.b - l.p

abbrev pub invariant-entries : goal.invariant-entries
invariant-entries l = (l.from ≤ length l.hashes) × ((l.read ≡ false) × (type_read (record_of l.t l.b) (types_in l.types) ≡ type_read (record_of l.t l.b) (map (type_from l.types.sheet.now) (drop l.from l.types.places.now))))

abbrev pub decreases-entries : goal.decreases-entries
decreases-entries l = length l.hashes - l.from
