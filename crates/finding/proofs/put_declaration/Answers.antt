-- The capabilities are listed in order of use, then the instruction goes behind the declarations (`put_declared`). The closure puts
-- the instruction's words, the ids taken as words.
use Rattle.std.proofs.Common.{rules}
use Prim.Native.Nat.{ℕ, ◌+◌}
use native.Mathlib.Omega.{arith}
use Rattle.definition.specs.Instructions.{words}
use Rattle.definition.specs.Shapes.{Shape, type_of}
use Rattle.lookup.specs.Local.{local_shape, as_list}
use Rattle.lookup.specs.Packed.{SmallShape}
use Rattle.spirv.specs.Ids.{low}
use Rattle.writer.specs.Steps.{Spells}
use Rattle.writer.proofs.Turns.{listed_added}
use Rattle.finding.specs.Costs.{longer}
use Rattle.finding.proofs.Spelling.{type_low, type_few}
use Rattle.finding.proofs.Ways.{put_declared}
use Rattle.finding.proofs.put_declaration.Goals as goal

spelt : (l : Shape) → SmallShape l → (id x y : ℕ) → Spells (4 + longer l) (type_of l id x y) (words (type_of l (low id) (low x) (low y)))
spelt l small id x y = record { few = type_few l (low id) (low x) (low y); spelt = type_low l small id x y }

pub declare-requires-clause-room : goal.declare-requires-clause-room
declare-requires-clause-room c =
    let a = c.args in
    let l = local_shape a.l in
    let p = c.list_capability.ensures.kept (omega (arith, c.requires.1)) in
    let q = c.list_capability-2.ensures.kept (omega (arith, p.grown, c.requires.1)) in
    let few = type_few l (low a.id) (low a.x) (low a.y) in
    (words (type_of l (low a.id) (low a.x) (low a.y)), (λ s n t k. search rules), omega (arith, few, p.grown, q.grown, c.requires.1))

pub returns : goal.returns
returns c =
    let a = c.args in
    let l = local_shape a.l in
    let k = c.capabilities_of-c in
    let p = listed_added c.list_capability.ensures (omega (arith, c.requires.1)) in
    let q = listed_added c.list_capability-2.ensures (omega (arith, p.kept.grown, c.requires.1)) in
    put_declared l a.id a.x a.y (as_list k.result.first) (as_list k.result.second) k.ensures p q
    (c.declare.ensures (type_of l a.id a.x a.y) (4 + longer l) (words (type_of l (low a.id) (low a.x) (low a.y))) (λ s n t k. search rules) (spelt l c.requires.0 a.id a.x a.y) (omega (arith, p.kept.grown, q.kept.grown, c.requires.1)))
