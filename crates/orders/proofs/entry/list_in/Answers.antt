use Rattle.orders.proofs.Listing.{list-listed, list-past}
use Rattle.orders.proofs.entry.list_in.Goals as goal

pub returns-then-slot-lt15 : goal.returns-then-slot-lt15
returns-then-slot-lt15 c D = list-listed D _ _ c.from-slot.ensures

pub returns-else-slot-lt15 : goal.returns-else-slot-lt15
returns-else-slot-lt15 c D = list-past D _ _ c.from-slot.ensures c.if-slot-lt15.false
