use Rattle.orders.proofs.BlankSlots.{Zeroed}
use Rattle.orders.proofs.fill.fill_zeros.Given as goal

abbrev pub invariant-loop-slot : goal.invariant-loop-slot
invariant-loop-slot l = Zeroed l.initial.sheet l.slot-index l.sheet
