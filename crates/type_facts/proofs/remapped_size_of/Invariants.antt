-- The first remap among all of them is the first among those that the loop has not passed.
use mathlib.Core.Path.{◌≡◌}
use Rattle.type_facts.proofs.Remaps.{remap_among}
use Rattle.type_facts.proofs.remapped_size_of.Given as goal

abbrev pub invariant-loop-place : goal.invariant-loop-place
invariant-loop-place l =
    let s = l.remaps.sheet.now in
    let os = l.remaps.places.now in
    remap_among s os l.group l.binding 0 ≡ remap_among s os l.group l.binding l.place-index
