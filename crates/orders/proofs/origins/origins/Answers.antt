use Rattle.std.proofs.Common.{rules}
use mathlib.Core.Path.{refl, ap, ◌∙◌}
use native.Mathlib.Omega.{arith}
use Rattle.orders.specs.Working.Messages.{messages_left}
use Rattle.orders.specs.Working.Winners.{nobody}
use Rattle.orders.proofs.Streaming.{messages-room, gone-none, gone-done}
use Rattle.orders.proofs.Winning.{none-won, seen_next, seen-room, origins-by}
use Rattle.orders.proofs.origins.origins.Goals as goal

pub loop-message-init : goal.loop-message-init
loop-message-init c = gone-none (none-won _ refl, refl) (ap messages_left c.into_iter-message-iterator.ensures.into_iter_gives ∙ c.of-message-items.ensures)

pub overflow_add-number : goal.overflow_add-number
overflow_add-number c = omega (arith, seen-room c.loop-message.invariant _ _ c.in-Some.ensures.steps, messages-room c.args.input.now)

pub loop-message-preserved : goal.loop-message-preserved
loop-message-preserved c = seen_next c.loop-message.invariant _ _ c.in-Some.ensures.steps _ c.note.ensures

pub returns : goal.returns
returns c = origins-by _ _ (gone-done c.loop-message.invariant c.in-None.ensures.steps.0).0 _ c.map.ensures.items.long (λ i l. let q = c.map.ensures.items.at i nobody 0 l in search rules)
