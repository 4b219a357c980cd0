-- The messages that are left of an input. A reader of the promise needs none of this.
use Rattle.std.specs.Prelude.{List, ℕ}
use Rattle.orders.specs.Stream.{messages_of}
use Rattle.orders.specs.declared.stream.Messages.{Messages}

abbrev pub messages_left : Messages → List (List ℕ)
messages_left m = messages_of m.rest.now
