-- Each answer is a law of `Promises`, and `promised` makes the promise of it. What `?` returns is the refusal that the walk gave.
use Rattle.std.proofs.Common.{rules, ◌≡◌, sym, ◌∙◌, Err}
use Rattle.listing.proofs.Promises.{promised, no_front, faulty, too_short, listed}
use Rattle.listing.proofs.list.Goals as goal

pub returns-then-not-is_front : goal.returns-then-not-is_front
returns-then-not-is_front c = let ws = c.args.words.now in let b = c.args.out.now in
    promised ws b _ _ (no_front ws b (sym c.is_front.ensures ∙ c.if-not-is_front.true))

pub returns-in_err-n : goal.returns-in_err-n
returns-in_err-n c = let ws = c.args.words.now in let b = c.args.out.now in
    let r = c.in_err-n.field-0.0 in
    let q : c.from_residual.result ≡ Err r = search rules in
    rw q (promised ws b _ _ (faulty ws b (sym c.is_front.ensures ∙ c.if-not-is_front.false) r c.in_err-n.ensures))

pub returns-then-out-n : goal.returns-then-out-n
returns-then-out-n c = let ws = c.args.words.now in let b = c.args.out.now in
    promised ws b _ _ (too_short ws b (sym c.is_front.ensures ∙ c.if-not-is_front.false) c.in_ok-n.n c.in_ok-n.ensures c.if-out-n.true)

pub returns : goal.returns
returns c = let ws = c.args.words.now in let b = c.args.out.now in let p = c.put_whole in
    promised ws b _ _ (listed ws b (sym c.is_front.ensures ∙ c.if-not-is_front.false) c.in_ok-n.n c.in_ok-n.ensures c.if-out-n.false p.result p.new.out p.ensures)
