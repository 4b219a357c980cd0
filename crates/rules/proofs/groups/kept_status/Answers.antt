use Rattle.rules.specs.Working.Groups.{status_rules}
use Rattle.rules.proofs.Judging.{kept_in}
use Rattle.rules.proofs.groups.kept_status.Goals as goal

pub returns : goal.returns
returns c = kept_in _ status_rules _ _ c.status_outcomes.ensures c.all_true.ensures
