use Rattle.rules.specs.Working.Groups.{day_rules}
use Rattle.rules.proofs.Judging.{kept_in}
use Rattle.rules.proofs.groups.kept_day.Goals as goal

pub returns : goal.returns
returns c = kept_in _ day_rules _ _ c.day_outcomes.ensures c.all_true.ensures
