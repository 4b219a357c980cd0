use Rattle.orders.specs.Working.Messages.{messages_left}
use Rattle.report.proofs.Telling.{Telling}
use Rattle.report.proofs.messages.put_messages.Given as goal

-- The messages that were given are told.
abbrev pub invariant-loop-index : goal.invariant-loop-index
invariant-loop-index l =
    goal.iterator-loop-index.can_next l.index-iterator × goal.iterator-loop-index.is_finite l.index-iterator
    × Telling l.input l.fn.page l.index-iterator.count (messages_left l.index-iterator.iter) l.draft l.page
