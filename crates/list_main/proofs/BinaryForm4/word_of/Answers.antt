-- `Binary`: four bytes, the lowest first, are one word (`one_word`).
use Prim.Native.Nat.{ℕ}
use mathlib.Core.Path.{◌≡◌, sym, ap, ◌∙◌}
use mathlib.Core.List.{[], ◌∷◌}
use Rattle.std.specs.Prelude.{Some}
use native.Mathlib.Omega.{arith}
use Rattle.std.proofs.Common.{rules}
use Rattle.list_main.specs.Answers.{low_first}
use Rattle.list_main.specs.Forms.{one_word}
use Rattle.list_main.proofs.BinaryForm4.word_of.Goals as goal

pub returns : goal.returns
returns c =
    let s = c.args.bytes.now in
    let e : c.from_le_bytes.result ≡ low_first s = omega (arith, c.from_le_bytes.ensures) in
    ap (λ (w : ℕ). Some (w ∷ [])) e ∙ sym (one_word s (search rules))
