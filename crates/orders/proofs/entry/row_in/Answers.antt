use Rattle.orders.proofs.Listing.{row-none}
use Rattle.orders.proofs.entry.row_in.Goals as goal

pub returns-in-None : goal.returns-in-None
returns-in-None c = row-none _ _ _ c.in-None.ensures
