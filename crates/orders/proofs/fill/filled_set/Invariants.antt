use Rattle.orders.proofs.BlankSlots.{Counted}
use Rattle.orders.proofs.fill.filled_set.Given as goal

abbrev pub invariant-loop-slot : goal.invariant-loop-slot
invariant-loop-slot l = Counted l.draft l.slot l.set
