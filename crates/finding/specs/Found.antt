-- What finding and declaring promise.
use Rattle.std.specs.Prelude.{ℕ, zero, suc}
use Rattle.definition.specs.Shapes.{Shape, Key, rank_of, type_of}
use Rattle.definition.specs.State.{State, Got, got, declare_with}
use Rattle.definition.specs.Finding.{find_at, declare_shape, capabilities_of}
use Rattle.writer.specs.declared.Writer.{Writer}
use Rattle.writer.specs.Steps.{Added}
use Rattle.finding.specs.Costs.{own_cost}

-- how what is named by a shape that nests n deep is found
abbrev pub find_below : ℕ → Key → State → Got
find_below zero = λ k s. got 0 s
find_below (suc n) = find_at n

-- a shape is declared under its id
abbrev pub shape_declared : Shape → ℕ → State → State
shape_declared l id s = (declare_shape (find_below (rank_of l)) l id s).state

-- its own instruction, with the ids of what it names
abbrev pub ShapePut : Shape → ℕ → ℕ → ℕ → Writer → Writer → Type 0
ShapePut l id x y w v = Added (own_cost l) (declare_with (capabilities_of l) (type_of l id x y)) w v
