-- `read_all`. The invariant: what is held lies within the buffer.
use Rattle.std.proofs.Common.{◌≤◌, length}
use Rattle.printing.proofs.streams.read_all.Given as goal

abbrev pub invariant-loop : goal.invariant-loop
invariant-loop g l = l.held ≤ length l.buffer
