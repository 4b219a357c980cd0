use Rattle.orders.specs.Stream.{messages_of}
use Rattle.orders.specs.Working.Messages.{messages_left}
use Rattle.orders.proofs.Winning.{Seen}
use Rattle.orders.proofs.origins.origins.Given as goal

-- The loop's invariant: the messages that were given are numbered, and the others are left.
abbrev pub invariant-loop-message : goal.invariant-loop-message
invariant-loop-message l = Seen (messages_of l.input) (messages_left l.message-iterator) l.number l.winners
