use Rattle.sheets.specs.Sheet.{text_of}
use Rattle.sheets.proofs.sheet.text.Goals as goal

pub returns : goal.returns
unfolding text_of
returns c = cc
