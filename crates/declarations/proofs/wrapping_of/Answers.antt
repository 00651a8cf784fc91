-- The global that was taken stands where it was read (`taken_wraps`), and the types before it are those that were read.
use Prim.Native.Nat.{◌<◌}
use mathlib.Core.Path.{refl}
use native.Mathlib.Omega.{arith}
use Rattle.records.specs.Places.{types_from}
use Rattle.declarations.proofs.Laws.{stood, wraps_answer, taken_wraps}
use Rattle.declarations.proofs.wrapping_of.Goals as goal

pub returns : goal.returns
returns c =
    let a = c.args in
    let h = a.held.now in
    let e = c.in_ok-outcome.was in
    let p = stood h a.w.now a.outcome a.index e c.requires in
    let v = c.global_at-v in
    let m : a.index < h.counts.globals = omega (arith, c.if-held-index.false) in
    wraps_answer h a.w.now a.outcome a.index e (omega (arith, c.if-w-ge-BOUND_MOST.false)) m p.in_globals c.global_needs_wrapper.result
    (taken_wraps h.sheet.now h.globals.now (types_from h.sheet.now h.types.now h.counts.types) a.index v.result.ty v.result c.global_needs_wrapper.result v.ensures (p.fits a.index m) refl (rw (c.types.ensures.0, c.types.ensures.1) at c.global_needs_wrapper.ensures))
