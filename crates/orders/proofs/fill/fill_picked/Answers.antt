use Rattle.orders.proofs.BlankSlots.{picked-filled}
use Rattle.orders.proofs.fill.fill_picked.Goals as goal

pub returns : goal.returns
returns c =
    picked-filled _ _ _ _ _ _ _ _ _ _ _ _ _ _ c.status_row.ensures c.fill_slot.ensures c.basis_row.ensures c.fill_slot-2.ensures
    c.zero_row.ensures c.fill_slot-3.ensures c.zero_row-2.ensures c.fill_slot-4.ensures
