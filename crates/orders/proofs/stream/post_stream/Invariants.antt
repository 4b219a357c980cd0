use mathlib.Core.List.{List}
use Prim.Native.Nat.{ℕ}
use Rattle.drafts.specs.Promises.{Postings}
use Rattle.orders.specs.Stream.{messages_of}
use Rattle.orders.specs.Working.Messages.{messages_left}
use Rattle.orders.proofs.Streaming.{Gone}
use Rattle.orders.proofs.stream.post_stream.Given as goal

-- The loop's invariant: the messages that were given are posted, and the others are left.
abbrev pub invariant-loop-message : goal.invariant-loop-message
invariant-loop-message l = Gone (messages_of l.input) (messages_left l.message-iterator) (λ (ms : List (List ℕ)). Postings ms l.draft)
