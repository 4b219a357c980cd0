use mathlib.Core.Path.{◌∙◌}
use native.Mathlib.Omega.{arith}
use Rattle.fillings.specs.Fillings.{width}
use Rattle.orders.proofs.search.statuses_of.Goals as goal

pub width_of-requires : goal.width_of-requires
width_of-requires c = omega (arith, c.status_count.ensures.1.0)

pub returns : goal.returns
returns c = (
  λ D u o. c.width_of.ensures.0 ∙ (λ i. width (c.blank_status.ensures.0 D u o i) (c.status_count.ensures.0 D u o i)),
  omega (arith, c.width_of.ensures.1, c.status_count.ensures.1.1.0),
)
