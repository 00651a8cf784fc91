-- `put_lines`. The invariant: the lines of the first i words stand at the front (`one_line` is a turn, `all_lines` the end).
use Prim.Native.Nat.{◌≤◌}
use mathlib.Core.Path.{◌≡◌}
use lib.ListN.{length, take}
use lib.Seq.{sets}
use Rattle.printing.specs.Text.{lines_of}
use Rattle.printing.proofs.put_lines.Given as goal

abbrev pub invariant-loop-i : goal.invariant-loop-i
invariant-loop-i l = (l.i ≤ length l.words) × (l.text ≡ sets l.initial.text 0 (lines_of (take l.i l.words))) × (length l.text ≡ length l.initial.text)
