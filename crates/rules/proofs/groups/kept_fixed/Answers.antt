use Rattle.rules.specs.Working.Groups.{fixed_rules}
use Rattle.rules.proofs.Judging.{kept_in}
use Rattle.rules.proofs.groups.kept_fixed.Goals as goal

pub returns : goal.returns
returns c = kept_in _ fixed_rules _ _ c.fixed_outcomes.ensures c.all_true.ensures
