use Rattle.rules.proofs.Judging.{basic-first}
use Rattle.rules.proofs.check.broken_basic.Goals as goal

pub returns : goal.returns
returns c = basic-first _ _ _ c.general_outcomes.ensures c.first_broken.ensures
