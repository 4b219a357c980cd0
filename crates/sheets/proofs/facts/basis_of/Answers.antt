use Rattle.sheets.specs.Working.Facts.{basis_of}
use Rattle.sheets.proofs.facts.basis_of.Goals as goal

pub returns : goal.returns
unfolding basis_of
returns c = cc
