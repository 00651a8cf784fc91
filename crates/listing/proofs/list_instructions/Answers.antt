-- Each way through a turn is a law of `Walks`. What `?` returns is the refusal that the test gave.
use Rattle.std.proofs.Common.{rules, ◌≡◌, ◌-◌, length, drop, arith, length-drop, Err}
use lib.Seq.{take_all}
use Rattle.listing.proofs.Walks.{walking_start, walking_more, walking_refused, walking_all}
use Rattle.listing.proofs.list_instructions.Goals as goal

pub loop-first-init : goal.loop-first-init
loop-first-init c = let ws = c.args.words.now in rw (take_all (length ws - 5) (drop 5 ws) (omega (arith, length-drop 5 ws))) (walking_start ws c.args.out.now c.requires)

pub returns-in_err-form : goal.returns-in_err-form
returns-in_err-form c =
    let l = c.loop-first in
    let e = c.in-Some.ensures.cases.0 in
    let r = c.in_err-form.field-0.0 in
    let q : c.from_residual.result ≡ Err r = search rules in
    rw q (walking_refused c.args.words.now c.args.out.now c.in-Some.first.now c.in-Some.behind.now l.to l.out (rw e at l.invariant) r (rw e at c.in_err-form.ensures))

pub loop-first-preserved : goal.loop-first-preserved
loop-first-preserved c =
    let l = c.loop-first in
    let p = c.list_instruction-to in
    let e = c.in-Some.ensures.cases.0 in
    let z = rw e at c.in_ok-form.ensures in
    rw c.split_at.ensures.back
    (walking_more c.args.words.now c.args.out.now c.in-Some.first.now c.in-Some.behind.now l.to l.out (rw e at l.invariant) z.1 p.new.out p.result l.auto.out (rw c.split_at.ensures.front at p.ensures))

pub returns : goal.returns
returns c = let l = c.loop-first in walking_all c.args.words.now c.args.out.now l.rest.now l.to l.out l.invariant c.in_default.ensures.cases
