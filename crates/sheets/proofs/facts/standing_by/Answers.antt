use Rattle.sheets.specs.Working.Facts.{standing_by}
use Rattle.sheets.proofs.facts.standing_by.Goals as goal

pub returns : goal.returns
unfolding standing_by
returns c = cc
