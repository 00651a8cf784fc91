-- What declaring a function type promises, and what it costs.
use Rattle.std.specs.Prelude.{ℕ, ◌+◌}
use Rattle.definition.specs.Sheet.{Function}
use Rattle.definition.specs.State.{State}
use Rattle.definition.specs.Rules.{declare_function}
use Rattle.writer.specs.declared.Writer.{Writer}
use Rattle.writer.specs.Cost.{Cost, an_id, a_composite, declaring, ◌⊕◌}
use Rattle.writer.specs.Held.{Held, Grown}

-- ---- costs

-- void has no parts
abbrev pub void_cost : Cost
void_cost = an_id ⊕ declaring 2 ⊕ a_composite 0

-- a function type of n ids, the return type's among them
abbrev pub signature_cost : ℕ → Cost
signature_cost n = an_id ⊕ declaring (n + 2) ⊕ a_composite n

-- a record with n parameters: void, if it is the first to return it, and its own type
abbrev pub function_cost : ℕ → Cost
function_cost n = void_cost ⊕ signature_cost (n + 1)

-- ---- promises

-- the function type is declared, at a cost
pub record FunctionWritten (c : Cost) (f : Function) (w v : Writer) : Type 0 where
  pub grown : Grown c w v
  pub held : (s : State) → Held w s → Held v (declare_function f s)
