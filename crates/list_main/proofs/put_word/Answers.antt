-- `put_word`: eight digits, and behind them what ends the word.
use Prim.Native.Nat.{ℕ, ◌+◌}
use mathlib.Core.List.{List, [], ◌∷◌, ◌++◌}
use mathlib.Core.Path.{sym, ap, ◌∙◌}
use lib.ListN.{set}
use lib.Seq.{sets}
use Rattle.printing.specs.Text.{digits}
use Rattle.printing.proofs.Lines.{digits-length}
use Rattle.printing.proofs.Runs.{behind}
use Rattle.list_main.proofs.put_word.Goals as goal

pub returns : goal.returns
returns c =
    let a = c.args in
    let e = c.ending_of in
    let l = ap (λ (j : ℕ). a.at + j) (sym (digits-length 16 8 a.w)) in
    ap (λ (z : List ℕ). set z (a.at + 8) e.result) c.put_digits.ensures
    ∙ behind a.text.now a.at (a.at + 8) (digits 16 8 a.w) e.result l
    ∙ ap (λ (b : ℕ). sets a.text.now a.at (digits 16 8 a.w ++ (b ∷ []))) e.ensures
