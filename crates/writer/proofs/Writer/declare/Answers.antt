-- What the call puts is as many words as are given, and stands behind those in use.
use mathlib.Core.Path.{refl}
use native.Mathlib.Omega.{arith}
use Rattle.writer.specs.Regions.{declarations}
use Rattle.writer.proofs.Words.{adds_count, put_one}
use Rattle.writer.proofs.Writer.declare.Goals as goal

pub overflow_add-self : goal.overflow_add-self
overflow_add-self g c =
    let w = c.args.self.now in
    let r = c.requires.room in
    omega (arith, r.2, adds_count w.used w.sections.now r.0 _ (omega arith) declarations c.put-n.new.arg2 c.put-n.result r.2 (r.1 _ _ _ (record { shown = _; shows = refl; left = _; met = c.put-n.ensures; leaves = refl })))

pub returns : goal.returns
returns g c i n ws puts spells room =
    put_one declarations spells c.args.self.now room (puts _ _ _ (record { shown = _; shows = refl; left = _; met = c.put-n.ensures; leaves = refl })) tt
