-- `put_line`: eight digits, and a newline behind them (`ended`).
use Prim.Native.Nat.{ℕ, ◌+◌}
use mathlib.Core.List.{List}
use mathlib.Core.Path.{refl, ap, ◌∙◌}
use lib.ListN.{set}
use Rattle.printing.specs.Text.{newline}
use Rattle.printing.proofs.Lines.{ended}
use Rattle.printing.proofs.put_line.Goals as goal

pub returns : goal.returns
returns c =
    let a = c.args in
    ap (λ (z : List ℕ). set z (a.at + 8) newline) c.put_digits.ensures ∙ ended a.text.now a.at 16 8 a.w (a.at + 8) refl
