use Rattle.sheets.specs.Working.Facts.{facts_by}
use Rattle.sheets.proofs.facts.classifiers_of.Goals as goal

pub returns : goal.returns
unfolding facts_by
returns c = λ D. cc
