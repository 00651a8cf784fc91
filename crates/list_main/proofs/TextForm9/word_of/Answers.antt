use mathlib.Core.Path.{ap, ◌∙◌}
use native.Mathlib.Omega.{arith}
use Rattle.std.proofs.Common.{rules, ℕ, [], ◌∷◌, option_map}
use Rattle.list_main.proofs.Reading.{line_more, line_breaks, line_end, line_other_end}
use Rattle.list_main.proofs.TextForm9.word_of.Goals as goal

pub returns-in_err-word : goal.returns-in_err-word
returns-in_err-word c =
    let l = c.loop-digit in
    ap (option_map (λ (w : ℕ). w ∷ [])) c.from_residual.ensures
    ∙ line_breaks c.args.line.now l.word l.digit-index l.invariant (search rules) (search rules) c.from.result (search rules)
    c.in_err-word.ensures.value

pub loop-digit-preserved : goal.loop-digit-preserved
loop-digit-preserved c =
    let l = c.loop-digit in
    let v = c.in_ok-word.ensures.value in
    line_more c.args.line.now l.word l.digit-index l.invariant (search rules) (search rules) c.from.result (search rules) c.in_ok-word.field-0 v.0 v.1

pub returns-then-line-eq-NEWLINE : goal.returns-then-line-eq-NEWLINE
returns-then-line-eq-NEWLINE c =
    let l = c.loop-digit in
    line_end c.args.line.now l.word l.digit-index l.invariant (search rules) (omega arith) (search rules)

pub returns-else-line-eq-NEWLINE : goal.returns-else-line-eq-NEWLINE
returns-else-line-eq-NEWLINE c =
    let l = c.loop-digit in
    line_other_end c.args.line.now l.word l.digit-index l.invariant (search rules) (omega arith) (search rules)
