use Rattle.sheets.specs.Working.Facts.{allowed_by}
use Rattle.sheets.proofs.facts.is_allowed.Goals as goal

pub returns : goal.returns
unfolding allowed_by
returns c = cc
