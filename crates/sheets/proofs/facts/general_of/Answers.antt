use Rattle.sheets.specs.Working.Facts.{general_of}
use Rattle.sheets.proofs.facts.general_of.Goals as goal

pub returns : goal.returns
unfolding general_of
returns c = cc
