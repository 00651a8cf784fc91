-- What a global costs.
use Rattle.std.specs.Prelude.{ℕ, ◌+◌, false, []}
use Rattle.writer.specs.Cost.{Cost, an_id, naming, annotating, a_block, declaring, ◌⊕◌}
use Rattle.writer_members.specs.Members.{member_cost}
use Rattle.finding.specs.Costs.{null_cost}

-- a wrapper's Block, its member, its own instruction, and its pointer's
abbrev pub wrapper_cost : Cost
wrapper_cost = an_id ⊕ a_block ⊕ member_cost false [] ⊕ declaring 3 ⊕ an_id ⊕ declaring 4

-- a pointer, whatever its form: a wrapper has Block and the most annotations, a remapped array the most of all else
abbrev pub pointer_cost : Cost
pointer_cost = record { types = 3; literals = 1; nulls = 0; values = 0; composites = 0; blocked = 1; parts = 0; capabilities = 6; names = 0; annotations = 17; declarations = 17; ids = 5 }

-- a global whose name ends at n: its id, name, access and binding, its pointer, Block on the base, a null, and the variable
abbrev pub global_cost : ℕ → Cost
global_cost n = an_id ⊕ naming (n + 2) ⊕ annotating 6 ⊕ annotating 8 ⊕ pointer_cost ⊕ a_block ⊕ null_cost ⊕ declaring 5
