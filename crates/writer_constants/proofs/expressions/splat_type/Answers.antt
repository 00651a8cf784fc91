-- The code is taken apart again into a kind's number and a width.
use Prim.Native.Nat.{◌-◌, ◌/◌, ◌%◌}
use mathlib.Core.Path.{refl}
use native.Mathlib.Omega.{arith}
use Rattle.kinds.specs.Numbers.{kind_number}
use Rattle.writer_constants.proofs.Entering.{splat_none, splat_some}
use Rattle.writer_constants.proofs.expressions.splat_type.Goals as goal

pub returns-then-kind-eq0 : goal.returns-then-kind-eq0
returns-then-kind-eq0 c = rw c.value_type.ensures (splat_none c.args.size c.args.kind c.if-kind-eq0.true)

pub returns : goal.returns
returns c =
    let a = c.args in
    let k = c.kind_of-k in
    rw c.value_type-2.ensures (splat_some a.size a.kind (kind_number k.result) ((a.kind - 1) / 4 % 256) c.if-kind-eq0.false (k.ensures (omega arith)) refl)
