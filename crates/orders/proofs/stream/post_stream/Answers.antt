use mathlib.Core.Path.{ap, ◌∙◌}
use mathlib.Core.List.{List}
use Prim.Native.Nat.{ℕ}
use Rattle.drafts.specs.Promises.{Postings}
use Rattle.orders.specs.Working.Messages.{messages_left}
use Rattle.orders.proofs.Streaming.{gone-none, gone-next, gone-done}
use Rattle.orders.proofs.stream.post_stream.Goals as goal

pub loop-message-init : goal.loop-message-init
loop-message-init c = gone-none c.requires (ap messages_left c.into_iter-message-iterator.ensures.into_iter_gives ∙ c.of-message-items.ensures)

pub loop-message-preserved : goal.loop-message-preserved
loop-message-preserved c =
    let i = c.loop-message.invariant in
    gone-next (λ (ms : List (List ℕ)). Postings ms c.post.new.draft) _ _ c.in-Some.ensures.steps i (c.post.ensures.after i.seen i.holds)

pub returns : goal.returns
returns c = gone-done c.loop-message.invariant c.in-None.ensures.steps.0
