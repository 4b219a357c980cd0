use Rattle.sheets.specs.Working.Facts.{is_a}
use Rattle.sheets.proofs.facts.is_a.Goals as goal

pub returns : goal.returns
unfolding is_a
returns c = cc
