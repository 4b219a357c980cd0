use Rattle.orders.proofs.Winning.{slot-within, won-unread, won-older, won-newer}
use Rattle.orders.proofs.origins.note.Goals as goal

pub returns-in_default : goal.returns-in_default
returns-in_default c = won-unread _ c.type_inv.message _ _ _ c.read.ensures _ c.in_default.is

pub bounds-winners-slot : goal.bounds-winners-slot
bounds-winners-slot c = slot-within _ _ c.read.ensures _ c.in-Ok.is _ _ c.slot_of.ensures c.from-slot.ensures

pub bounds-winners-slot-then-winners-slot : goal.bounds-winners-slot-then-winners-slot
bounds-winners-slot-then-winners-slot c = slot-within _ _ c.read.ensures _ c.in-Ok.is _ _ c.slot_of.ensures c.from-slot.ensures

pub returns-then-winners-slot : goal.returns-then-winners-slot
returns-then-winners-slot c = won-newer _ c.type_inv.message _ _ _ c.read.ensures _ c.in-Ok.is _ _ c.slot_of.ensures c.from-slot.ensures _ c.rank-rank.ensures c.if-winners-slot.true

pub returns-else-winners-slot : goal.returns-else-winners-slot
returns-else-winners-slot c = won-older _ c.type_inv.message _ _ _ c.read.ensures _ c.in-Ok.is _ _ c.slot_of.ensures c.from-slot.ensures _ c.rank-rank.ensures c.if-winners-slot.false
