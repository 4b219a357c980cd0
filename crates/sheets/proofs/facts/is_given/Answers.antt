use Rattle.sheets.specs.Sheet.{given}
use Rattle.sheets.proofs.facts.is_given.Goals as goal

pub returns : goal.returns
unfolding given
returns c = cc
