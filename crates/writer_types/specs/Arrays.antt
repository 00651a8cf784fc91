-- An array: the definition's rule, under the id taken for it.
use Rattle.std.specs.Prelude.{ℕ, [], ◌∷◌}
use Rattle.definition.specs.Numbers.{DecorationArrayStride}
use Rattle.definition.specs.Instructions.{decorate}
use Rattle.definition.specs.Shapes.{entry}
use Rattle.definition.specs.State.{State, annotate}
use Rattle.definition.specs.Finding.{find}
use Rattle.definition.specs.Rules.{declare_array}

-- a BindingArray: the base is found, and then the size, if there is one
abbrev pub elements_declared : ℕ → ℕ → ℕ → State → State
elements_declared base size id s = declare_array size id (find (entry base) s)

-- an Array: the stride comes first
abbrev pub array_declared : ℕ → ℕ → ℕ → ℕ → State → State
array_declared base size stride id s = elements_declared base size id (annotate (decorate id DecorationArrayStride (stride ∷ [])) s)
