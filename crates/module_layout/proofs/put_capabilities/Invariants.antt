-- The invariant: the instructions of the first numbers stand at the front, and end what is in use.
use Rattle.module_layout.proofs.Capabilities.{Listed}
use Rattle.module_layout.proofs.put_capabilities.Given as goal

abbrev pub invariant-loop-number : goal.invariant-loop-number
invariant-loop-number l = Listed l.numbers l.initial.out l.number-index l.out l.at
