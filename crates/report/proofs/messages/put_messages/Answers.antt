use mathlib.Core.Path.{ap, ◌∙◌}
use mathlib.Core.Logic.{inl}
use native.Mathlib.Omega.{arith}
use Rattle.orders.specs.Working.Messages.{messages_left}
use Rattle.report.proofs.Telling.{number, telling-none, telling-number, telling-room, telling-next, telling-done, telling-fits}
use Rattle.report.proofs.Writing.{message-short, message_put}
use Rattle.report.proofs.messages.put_messages.Goals as goal

pub loop-index-init : goal.loop-index-init
loop-index-init c =
    let r = c.requires in
    let e = c.enumerate-index-items.ensures in
    let s = c.into_iter-index-iterator.ensures.into_iter_gives in
    let t =
    telling-none c.args.input.now c.args.page.now r.input_len_bound r.in_bounds r.empty _ _ _ ((λ i. (s i).count) ∙ e.count)
    (ap messages_left ((λ i. (s i).iter) ∙ e.source) ∙ c.of.ensures) r.draft_value
    in
    ((tt, tt, inl (telling-fits _ _ r.input_len_bound r.in_bounds r.empty _ _ _ _ t)), tt, t)

pub put_line-requires : goal.put_line-requires
put_line-requires c =
    let r = c.requires in
    let s = c.in-Some.ensures.steps in
    let i = c.loop-index.invariant.2 in
    let n = telling-number _ _ r.input_len_bound r.in_bounds r.empty _ _ _ _ i _ _ s.0 in
    omega (arith, telling-room _ _ r.input_len_bound r.in_bounds r.empty _ _ _ _ i _ _ s.0, message-short (number c.in-Some.index) _ (omega (arith, s.1, n)) c.shown-answer.ensures.1)

pub loop-index-preserved : goal.loop-index-preserved
loop-index-preserved c =
    let r = c.requires in
    let s = c.in-Some.ensures.steps in
    let i = c.loop-index.invariant.2 in
    let n = telling-number _ _ r.input_len_bound r.in_bounds r.empty _ _ _ _ i _ _ s.0 in
    let w = message_put (number c.in-Some.index) _ (omega (arith, s.1, n)) c.shown-answer.ensures.1 _ c.shown-answer.ensures.0 _ _ c.put_line.ensures in
    let t = telling-next _ _ r.input_len_bound r.in_bounds r.empty _ _ _ _ i _ _ s.0 _ _ _ _ _ s.1 s.2 c.post.ensures w.0 w.1 in
    ((tt, tt, inl (telling-fits _ _ r.input_len_bound r.in_bounds r.empty _ _ _ _ t)), tt, t)

pub returns : goal.returns
returns c =
    let r = c.requires in telling-done _ _ r.input_len_bound r.in_bounds r.empty _ _ _ _ c.loop-index.invariant.2 c.in-None.ensures.steps.0.0
