-- `put_bytes`. The invariant: the first i bytes stand behind the place (`copied` is a turn).
use Prim.Native.Nat.{◌≤◌}
use mathlib.Core.Path.{◌≡◌}
use lib.ListN.{length, take}
use lib.Seq.{sets}
use Rattle.printing.proofs.put_bytes.Given as goal

abbrev pub invariant-loop-i : goal.invariant-loop-i
invariant-loop-i l = (l.i ≤ length l.bytes) × (length l.text ≡ length l.initial.text) × (l.text ≡ sets l.initial.text l.at (take l.i l.bytes))
