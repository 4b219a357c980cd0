use Rattle.orders.proofs.Quickening.{quick-10, quick-filled}
use Rattle.orders.proofs.quick.quick.Goals as goal

pub returns-in-None : goal.returns-in-None
returns-in-None c = quick-10 _ (c.in-Ok.ensures) _ c.search-found.ensures c.in-None.is

pub returns-in-Some : goal.returns-in-Some
returns-in-Some c = quick-filled _ (c.in-Ok.ensures) _ c.search-found.ensures _ _ _ _ c.filled_set-set.ensures c.in-Some.is c.fill_found.ensures c.put.ensures
