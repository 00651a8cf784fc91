-- What entering a constant of the sheet promises, and what it costs.
use Rattle.std.specs.Prelude.{ℕ, ◌+◌, ◌<◌, ◌≡◌, List, Option, length}
use Rattle.definition.specs.Choice.{or_else}
use Rattle.definition.specs.Shapes.{Kind, Key, bool, vector, entry, shape}
use Rattle.definition.specs.State.{State, Got, id_of}
use Rattle.definition.specs.Sheet.{TypeEntry, Expression, Value, Alias, ZeroValue, Compose, Splat}
use Rattle.definition.specs.Rules.{got_value, enter_value, declare_constant}
use Rattle.writer.specs.declared.Writer.{Writer}
use Rattle.writer.specs.Cost.{Cost, an_id, a_value, a_composite, declaring, ◌⊕◌}
use Rattle.writer.specs.Held.{kind_code, SmallKind, HeldIn, Held, HeldByTables, Grown}
use Rattle.writer.specs.Steps.{Gives}
use Rattle.finding.specs.Costs.{cost_of, literal_cost, null_cost}

-- ---- costs

-- a composite of n parts: its type, then its instruction
abbrev pub composite_cost : Key → ℕ → Cost
composite_cost k n = cost_of k ⊕ an_id ⊕ declaring (n + 3) ⊕ a_composite n

-- a Splat's type is a vector, and costs the same whatever its kind
abbrev pub expression_cost : Expression → Cost
expression_cost (Value l) = literal_cost ⊕ a_value
expression_cost (Alias c) = a_value
expression_cost (ZeroValue t) = null_cost ⊕ a_value
expression_cost (Compose t cs) = composite_cost (entry t) (length cs) ⊕ a_value
expression_cost (Splat n c) = composite_cost (shape (vector n bool)) n ⊕ a_value

-- so few parts that an instruction's word count can say how many; a sheet has fewer
abbrev pub FewParts : Expression → Type 0
FewParts (Value l) = Unit
FewParts (Alias c) = Unit
FewParts (ZeroValue t) = Unit
FewParts (Compose t cs) = length cs < 65000
FewParts (Splat n c) = Unit

-- ---- promises

-- the id of a type that is entered, else 0
abbrev pub TypeId : Key → Writer → ℕ → Type 0
TypeId k w r = (s : State) → HeldByTables w s → r ≡ or_else 0 (id_of s k)

-- the constant that was found is entered, of a type with a key
pub record EnteredFound (k : Key) (kind id : ℕ) (w v : Writer) : Type 0 where
  pub grown : Grown a_value w v
  pub sections : v.sections.now ≡ w.sections.now
  pub held : (o : Option Kind) → kind ≡ kind_code o → SmallKind o → (x : Got) → Gives x id w → Held v (enter_value (got_value k o x).value x.state)
  pub apart : (o : Option Kind) → kind ≡ kind_code o → SmallKind o → (x : Got) → id ≡ x.id
      → (S : List ℕ) → HeldIn w.used w.tables.now S x.state → HeldIn v.used v.tables.now S (enter_value (got_value k o x).value x.state)

-- the key of a Splat's type, from the code of its value's kind
pub record SplatType (size kind : ℕ) (k : Key) : Type 0 where
  pub cost : cost_of k ≡ cost_of (shape (vector size bool))
  pub is : (o : Option Kind) → kind ≡ kind_code o → SmallKind o → k ≡ shape (vector size (or_else bool o))

-- the constant is declared and entered, at a cost
pub record ConstantWritten (c : Cost) (ts : List TypeEntry) (e : Expression) (w v : Writer) : Type 0 where
  pub grown : Grown c w v
  pub held : (s : State) → Held w s → Held v (declare_constant ts e s)
