use Rattle.sheets.specs.Working.Facts.{code_of}
use Rattle.sheets.proofs.facts.code_of.Goals as goal

pub returns : goal.returns
unfolding code_of
returns c = cc
