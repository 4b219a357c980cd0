use mathlib.Core.Path.{refl}
use Rattle.rules.proofs.Judging.{ahead-first}
use Rattle.rules.proofs.check.broken_ahead.Goals as goal

pub returns : goal.returns
returns c = ahead-first _ _ _ _ _ c.fixed_outcomes-always.ensures c.day_outcomes-given.ensures refl c.first_broken.ensures
