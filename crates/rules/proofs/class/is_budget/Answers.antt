use mathlib.Core.Path.{refl}
use Rattle.rules.proofs.Judging.{budget-is}
use Rattle.rules.proofs.class.is_budget.Goals as goal

pub returns : goal.returns
returns c = (λ D s o. budget-is D _ s o, refl)
