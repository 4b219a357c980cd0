use Rattle.sheets.specs.Working.Facts.{form_of}
use Rattle.sheets.proofs.facts.form_of.Goals as goal

pub returns : goal.returns
unfolding form_of
returns c = cc
