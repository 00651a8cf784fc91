-- The type of a body, which the program holds as a variant and the body itself, as the definition has it.
use Rattle.std.specs.Prelude.{Bool, List, ℕ}
use Rattle.definition.specs.Bytes.{name_end}
use Rattle.definition.specs.Sheet.{TypeInner, TypeEntry}
use Rattle.definition.specs.Shapes.{shape_of}
use Rattle.definition.specs.State.{State, Got}
use Rattle.definition.specs.Rules.{declare_inner}
use Rattle.entries.specs.declared.types.TypeInner as Program
use Rattle.entries.specs.Types.{inner_of}

-- the definition's fields of it
abbrev pub inner_in : List ℕ → Program.TypeInner → TypeInner
inner_in b t = inner_of b (name_end b 0) t

-- it is found or declared, by its shape
abbrev pub inner_declared : Bool → List TypeEntry → TypeInner → State → Got
inner_declared debug ts i s = declare_inner debug ts (shape_of i) i s
