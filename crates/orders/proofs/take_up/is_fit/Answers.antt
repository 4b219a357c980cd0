use Rattle.sheets.specs.Sheet.{given}
use Rattle.orders.specs.TakeUp.{fit}
use Rattle.orders.proofs.take_up.is_fit.Goals as goal

pub returns : goal.returns
unfolding fit given
returns c D = cc (c.has_list.ensures D)
