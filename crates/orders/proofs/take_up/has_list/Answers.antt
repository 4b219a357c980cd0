use mathlib.Core.Path.{◌∙◌}
use Rattle.orders.proofs.Lists.{some-listed}
use Rattle.orders.proofs.take_up.has_list.Goals as goal

pub returns : goal.returns
returns c D = c.is_some.ensures ∙ some-listed D _ _ c.list_in.ensures
