use Rattle.sheets.specs.Working.Facts.{day_of}
use Rattle.sheets.proofs.facts.day_of.Goals as goal

pub returns : goal.returns
unfolding day_of
returns c = cc
