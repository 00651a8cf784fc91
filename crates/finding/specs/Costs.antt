-- What finding costs: a row and an id for each shape that is declared, two capabilities, and its instruction's words.
use Rattle.std.specs.Prelude.{ℕ, ◌+◌, ◌*◌}
use Rattle.definition.specs.Shapes.{Shape, Key, rank_of}
use Rattle.definition.specs.Shapes.{scalar, vector, matrix, pointer, value_pointer, image, sampler, acceleration_structure, ray_query, binding_array, binding_pointer, entry, shape}
use Rattle.writer.specs.Cost.{Cost, no_cost, an_id, a_type, a_literal, a_null, listing_cost, declaring, ◌⊕◌}

-- how many lengths a shape names, itself or in what it names
abbrev pub lengths : Shape → ℕ
lengths (scalar k) = 0
lengths (vector n k) = 0
lengths (matrix c r w) = 0
lengths (pointer b c) = 0
lengths (value_pointer n k c) = 0
lengths (image k d p a m s f) = 0
lengths sampler = 0
lengths acceleration_structure = 0
lengths ray_query = 0
lengths (binding_array b n) = 1
lengths (binding_pointer b n s a) = 1

-- the words of an image beyond the four that other shapes take at most
abbrev pub longer : Shape → ℕ
longer (scalar k) = 0
longer (vector n k) = 0
longer (matrix c r w) = 0
longer (pointer b c) = 0
longer (value_pointer n k c) = 0
longer (image k d p a m s f) = 5
longer sampler = 0
longer acceleration_structure = 0
longer ray_query = 0
longer (binding_array b n) = 0
longer (binding_pointer b n s a) = 0

-- a shape's own instruction, and its capabilities
abbrev pub own_cost : Shape → Cost
own_cost l = listing_cost 2 ⊕ declaring (4 + longer l)

-- a shape under its id: what it names, and its own instruction
abbrev pub declared_cost : Shape → Cost
declared_cost l = record {
  types = rank_of l;
  literals = lengths l;
  nulls = 0;
  values = 0;
  composites = 0;
  blocked = 0;
  parts = 0;
  capabilities = 2 + 2 * rank_of l;
  names = 0;
  annotations = 0;
  declarations = 4 + 4 * rank_of l + longer l + 5 * lengths l;
  ids = 2 * rank_of l;
}

-- a key: an entry is found or not, and never declared
abbrev pub cost_of : Key → Cost
cost_of (entry h) = no_cost
cost_of (shape l) = a_type ⊕ an_id ⊕ declared_cost l

-- a literal: its type, which is a scalar, then five words at most
abbrev pub literal_cost : Cost
literal_cost = a_type ⊕ an_id ⊕ listing_cost 2 ⊕ declaring 9 ⊕ an_id ⊕ a_literal

abbrev pub null_cost : Cost
null_cost = an_id ⊕ declaring 3 ⊕ a_null
