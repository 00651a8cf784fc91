-- The function type is there already, or it is new: Ways has both. An id more leaves what waits where it is.
use Prim.Native.Nat.{ℕ, ◌+◌}
use mathlib.Core.Path.{refl, subst}
use mathlib.Core.List.{List}
use Rattle.definition.specs.Instructions.{type_function}
use Rattle.definition.specs.State.{function}
use Rattle.writer.specs.Regions.{declarations}
use Rattle.writer.specs.Steps.{Puts, staged}
use Rattle.writer.proofs.Staged.{staged_still}
use Rattle.writer_functions.specs.Written.{signature_cost}
use Rattle.writer_functions.proofs.Ways.{shared_old, shared_new}
use Rattle.writer_functions.proofs.get_function_type.Goals as goal

pub returns-in-Some : goal.returns-in-Some
returns-in-Some c =
    let a = c.args in
    let xs = staged a.n a.w.now in
    shared_old (function xs) tt (λ i. type_function i xs) a.n refl a.w.now refl c.find_composite.result c.find_composite.ensures (signature_cost a.n) c.in-Some.id c.in-Some.is

pub returns-in-None : goal.returns-in-None
returns-in-None c =
    let a = c.args in
    let m = c.take_id-id in
    let d = c.declare_function in
    let xs = staged a.n a.w.now in
    shared_new (function xs) tt (λ i. type_function i xs) a.n refl a.w.now refl c.find_composite.result c.find_composite.ensures c.in-None.is m.ensures
    (subst (λ (ys : List ℕ). Puts declarations (a.n + 2) (type_function m.result ys) m.new.self d.new.self) (staged_still a.n m.ensures.kept) d.ensures) c.enter_composite.ensures
