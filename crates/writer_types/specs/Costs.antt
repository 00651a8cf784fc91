-- What a type entry costs, by the definition's fields.
use Rattle.std.specs.Prelude.{ℕ, ◌+◌, ◌*◌, List, [], ◌∷◌, length}
use Rattle.std.specs.Prelude.{Option, Some, None}
use Rattle.definition.specs.Bytes.{Name}
use Rattle.definition.specs.Choice.{or_else}
use Rattle.definition.specs.Sheet.{Member, TypeInner}
use Rattle.definition.specs.Sheet.{Scalar, Vector, Matrix, Atomic, Pointer, ValuePointer, Array, Struct, Image, Sampler, AccelerationStructure, RayQuery, BindingArray}
use Rattle.definition.specs.Shapes.{Shape, shape_of, shape}
use Rattle.writer.specs.Cost.{Cost, no_cost, an_id, naming, annotating, a_block, declaring, ◌⊕◌}
use Rattle.finding.specs.Costs.{cost_of, literal_cost}

-- ---- names

-- how many bytes a name has; 0 where there is none
abbrev pub name_length : Name → ℕ
name_length nm = length (or_else [] nm)

-- ---- arrays: finding the base costs nothing

-- the length, and the instruction
abbrev pub elements_cost : Cost
elements_cost = literal_cost ⊕ declaring 4

-- the stride before them
abbrev pub array_cost : Cost
array_cost = annotating 4 ⊕ elements_cost

-- ---- structs

-- a member of a name: Offset, ColMajor and MatrixStride, and the name
abbrev pub named_member_cost : Name → Cost
named_member_cost nm = annotating 14 ⊕ naming (name_length nm + 4)

-- the bytes that members take
unfoldable pub weight : List Member → ℕ
weight [] = 0
weight (m ∷ ms) = 7 + name_length m.name + weight ms

-- to a byte two words of annotations and one of names
abbrev pub members_cost : List Member → Cost
members_cost ms = annotating (2 * weight ms) ⊕ naming (weight ms)

-- the members, Block, the instruction
abbrev pub struct_cost : List Member → Cost
struct_cost ms = members_cost ms ⊕ a_block ⊕ declaring (length ms + 2)

-- ---- an entry, without its key and its name

-- an aggregate, without its id
abbrev pub aggregate_cost : TypeInner → Cost
aggregate_cost (Scalar k w) = no_cost
aggregate_cost (Vector n k w) = no_cost
aggregate_cost (Matrix c r w) = no_cost
aggregate_cost (Atomic k w) = no_cost
aggregate_cost (Pointer b s a) = no_cost
aggregate_cost (ValuePointer n k w s a) = no_cost
aggregate_cost (Array b n d) = array_cost
aggregate_cost (Struct n ms) = struct_cost ms
aggregate_cost (Image d a c x y) = no_cost
aggregate_cost (Sampler c) = no_cost
aggregate_cost AccelerationStructure = no_cost
aggregate_cost RayQuery = no_cost
aggregate_cost (BindingArray b n) = elements_cost

-- a shape is found, an aggregate takes an id
abbrev pub shaped_cost : Option Shape → TypeInner → Cost
shaped_cost (Some l) i = cost_of (shape l)
shaped_cost None i = an_id ⊕ aggregate_cost i

-- by the shape that it has
abbrev pub inner_cost : TypeInner → Cost
inner_cost i = shaped_cost (shape_of i) i
