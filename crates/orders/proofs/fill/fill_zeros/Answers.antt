use native.Mathlib.Omega.{arith}
use Rattle.orders.proofs.BlankSlots.{zeroed-none, zeroed-more, zeroed-all}
use Rattle.orders.proofs.fill.fill_zeros.Goals as goal

pub loop-slot-init : goal.loop-slot-init
loop-slot-init c = zeroed-none _

pub loop-slot-preserved : goal.loop-slot-preserved
loop-slot-preserved c = zeroed-more _ _ _ _ _ c.loop-slot-test.true c.zero_row-row.ensures c.fill_slot.ensures c.loop-slot.invariant

pub returns : goal.returns
returns c = zeroed-all _ _ _ (omega arith) (omega arith) c.loop-slot.invariant
