-- The index falls from a type to its parts; in between, four calls go down from the flag to the entry, its members and a part.
-- The loop over the members keeps the memo right, and that the members which are left answer as all do.
use Rattle.std.proofs.Common.{◌≡◌, ◌+◌, ◌*◌}
use Rattle.members.specs.Walk.{members_left}
use Rattle.records.specs.Places.{types_in}
use Rattle.zeroable.specs.Memo.{Memo, zero_members}
use Rattle.zeroable.proofs.+zeroable_parts.Given as goal

abbrev pub decreases-is_zeroable : goal.decreases-is_zeroable
decreases-is_zeroable l = 4 * l.i + 3

abbrev pub decreases-zero_entry : goal.decreases-zero_entry
decreases-zero_entry l = 4 * l.i + 2

abbrev pub decreases-zero_members : goal.decreases-zero_members
decreases-zero_members l = 4 * l.i + 1

abbrev pub decreases-zero_part : goal.decreases-zero_part
decreases-zero_part l = 4 * l.i

abbrev pub invariant-zero_members-loop-m : goal.invariant-zero_members-loop-m
invariant-zero_members-loop-m l =
    let ts = types_in l.types in
    Memo ts l.memo × (zero_members ts l.i (members_left l.fn.members) ≡ zero_members ts l.i (members_left l.m-iterator))
