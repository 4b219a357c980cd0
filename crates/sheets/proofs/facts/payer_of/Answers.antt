use Rattle.sheets.specs.Working.Facts.{payer_of}
use Rattle.sheets.proofs.facts.payer_of.Goals as goal

pub returns : goal.returns
unfolding payer_of
returns c = cc
