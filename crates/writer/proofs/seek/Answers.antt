-- The rows are cut out of the slice, and what `first` finds among them is what is found among the table's rows.
use Rattle.std.proofs.Common.{rules}
use Prim.Native.Nat.{ℕ, ◌*◌, ◌/◌, ◌+◌, ◌-◌}
use mathlib.Core.Path.{◌≡◌, ap, ◌∙◌}
use mathlib.Core.Bool.{Bool, ◌&&◌}
use mathlib.Core.List.{List}
use native.Mathlib.Omega.{arith}
use lib.Dec.{eqb}
use lib.ListN.{get_or, length, take, drop}
use Rattle.std.specs.Prelude.{option_map}
use Rattle.std.specs.List.{find}
use Rattle.std.proofs.Math.Bool.{and_comm}
use Rattle.writer.specs.Rows.{triple}
use Rattle.writer.proofs.Search.{finds_row, cut}
use Rattle.writer.proofs.Parts.{lent, part_length}
use Rattle.writer.proofs.seek.Goals as goal

pub returns : goal.returns
returns c =
    let a = c.args in
    let T = a.tables.now in
    let t : List ℕ → Bool = λ r. eqb (get_or r 1 0) a.b && eqb (get_or r 0 0) a.a in
    let f = c.first.ensures t (λ x b is. search rules) in
    let m : c.map.result ≡ option_map (λ r. get_or r 2 0) (option_map (λ r. r.now) c.first.result) = search rules in
    let l = ap length (lent T a.start (3 * a.n)) ∙ part_length T a.start (3 * a.n) (omega (arith, c.requires)) in
    let rows = c.as_chunks.ensures.front ∙ cut triple T a.start a.n (length (take (a.start + 3 * a.n - a.start) (drop a.start T)) / 3) (omega (arith, l)) in
    m ∙ ap (option_map (λ r. get_or r 2 0)) f ∙ ap (λ (rs : List (List ℕ)). option_map (λ r. get_or r 2 0) (find t rs)) rows ∙ finds_row triple a.a a.b t (λ r. and_comm (eqb (get_or r 1 0) a.b) (eqb (get_or r 0 0) a.a)) T a.start a.n
