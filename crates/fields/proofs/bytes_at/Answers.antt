-- `fields::bytes_at`: at each index of the array stands the byte of what is left from i on, which is the slice's at i + k.
use Prim.Native.Nat.{ℕ}
use mathlib.Core.Path.{◌≡◌, ap, ◌∙◌}
use mathlib.Core.List.{List}
use borrow.Author.Rules.{rules}
use Rattle.std.proofs.Common.{arith, drop}
use Rattle.std.proofs.lemmas.Grind.{common_steps}
use Rattle.std.proofs.lemmas.List.{get_or-drop}
use Rattle.definition.specs.Bytes.{u8_at}
use Rattle.fields.proofs.Arrays.{filled_all}
use Rattle.fields.proofs.bytes_at.Goals as goal

pub returns : goal.returns
returns g c = λ k h.
    let left : c.unwrap_or_default-rest.result.now ≡ drop c.args.i c.args.s.now = grind (arith, common_steps) in
    filled_all _ (u8_at c.unwrap_or_default-rest.result.now) _ (λ i y q p. search rules) _ _ c.from_fn.ensures.items k h
    ∙ ap (λ (l : List ℕ). u8_at l k) left ∙ get_or-drop c.args.i c.args.s.now k 0
