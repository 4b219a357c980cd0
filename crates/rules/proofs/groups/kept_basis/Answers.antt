use Rattle.rules.specs.Working.Groups.{basis_rules}
use Rattle.rules.proofs.Judging.{kept_in}
use Rattle.rules.proofs.groups.kept_basis.Goals as goal

pub returns : goal.returns
returns c = kept_in _ basis_rules _ _ c.basis_outcomes.ensures c.all_true.ensures
