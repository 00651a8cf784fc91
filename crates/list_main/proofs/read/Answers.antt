use mathlib.Core.Path.{◌≡◌, ap, ◌∙◌}
use native.Mathlib.Omega.{arith}
use lib.ListN.{length, length-set}
use Rattle.std.proofs.Common.{rules, option_copied}
use Rattle.list_main.specs.Answers.{at_most}
use Rattle.list_main.proofs.Reading.{over, piece_more, piece_breaks, piece_short}
use Rattle.list_main.proofs.read.Goals as goal

pub returns-in_err-words : goal.returns-in_err-words
returns-in_err-words g c =
    let l = c.loop-bytes in
    let s = c.in-Some in
    let p = s.ensures.cases in
    let k = length c.args.words.now in
    ap option_copied c.from_residual.ensures
    ∙ ap (at_most k)
    (piece_breaks g.row.BYTES g.F.Form.words c.args.input.now l.words l.n l.rest.now l.invariant.0 g.met.F.Form.joined s.bytes.now s.later.now p.0 p.1
    (omega (arith, p.2)) c.in_err-words.ensures)

pub loop-bytes-preserved : goal.loop-bytes-preserved
loop-bytes-preserved g c =
    let l = c.loop-bytes in
    let s = c.in-Some in
    let p = s.ensures.cases in
    let w = c.in_ok-words.field-0 in
    let r : length l.words ≡ length c.args.words.now = l.invariant.1 in (
      piece_more g.row.BYTES g.F.Form.words c.args.input.now l.words l.n l.rest.now l.invariant.0 g.met.F.Form.joined s.bytes.now s.later.now p.0
          p.1 (omega (arith, p.2)) w c.in_ok-words.ensures (omega arith),
      length-set l.words l.n w ∙ r,
    )

pub returns-else-is_empty : goal.returns-else-is_empty
returns-else-is_empty g c =
    let l = c.loop-bytes in
    let k = length c.args.words.now in
    ap (at_most k)
    (piece_short g.row.BYTES g.F.Form.words c.args.input.now l.words l.n l.rest.now l.invariant.0 g.met.F.Form.counted (search rules) c.in_default.ensures.cases)

pub returns-then-saturating_mul-input : goal.returns-then-saturating_mul-input
returns-then-saturating_mul-input g c =
    let a = c.args in
    over g.row.BYTES g.F.Form.words g.met.F.Form.counted a.input.now (length a.words.now) (omega (arith, c.saturating_mul.ensures, c.if-saturating_mul-input.true, c.well_formed))
