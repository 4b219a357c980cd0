use Rattle.rules.specs.Working.Groups.{document_rules}
use Rattle.rules.proofs.Judging.{kept_in}
use Rattle.rules.proofs.groups.kept_document.Goals as goal

pub returns : goal.returns
returns c = kept_in _ document_rules _ _ c.document_outcomes.ensures c.all_true.ensures
