use Rattle.rules.specs.Rules.{of_lines}
use Rattle.rules.proofs.Judging.{kept_in}
use Rattle.rules.proofs.groups.kept_lines.Goals as goal

pub returns : goal.returns
returns c = kept_in _ of_lines _ _ c.lines_outcomes.ensures c.all_true.ensures
