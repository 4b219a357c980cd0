use Rattle.orders.proofs.BlankSlots.{picked-empty}
use Rattle.orders.proofs.fill.fill_found.Goals as goal

pub returns-then-set-eq0 : goal.returns-then-set-eq0
returns-then-set-eq0 c s l e b = picked-empty _ s _ _ _ c.if-set-eq0.true l e b
