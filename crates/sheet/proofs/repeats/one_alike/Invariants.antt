-- As long as none was found, none of those that were looked at is the hash.
use Prim.Native.Nat.{◌+◌}
use mathlib.Core.Bool.{false}
use mathlib.Core.Path.{◌≡◌}
use Rattle.sheet.specs.Hash.{Unlike}
use Rattle.sheet.proofs.repeats.one_alike.Given as goal

abbrev pub invariant-loop-hash : goal.invariant-loop-hash
invariant-loop-hash l = l.alike ≡ false → Unlike l.hashes l.h l.j (l.j + l.hash-index)
