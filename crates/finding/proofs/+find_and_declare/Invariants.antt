-- The cycle: each function's measure is three times the nesting rank of its shape and a number below three, so that it falls at each
-- call.
use Prim.Native.Nat.{◌+◌, ◌*◌}
use Rattle.definition.specs.Shapes.{rank, rank_of}
use Rattle.lookup.specs.Local.{local_shape, key_of}
use Rattle.finding.proofs.+find_and_declare.Given as goal

abbrev pub decreases-get_constant_scalar : goal.decreases-get_constant_scalar
decreases-get_constant_scalar l = 3

abbrev pub decreases-get_type_id : goal.decreases-get_type_id
decreases-get_type_id l = 3 * rank (key_of l.ty) + 2

abbrev pub decreases-write_type_declaration_local : goal.decreases-write_type_declaration_local
decreases-write_type_declaration_local l = 3 * rank_of (local_shape l.l) + 1
