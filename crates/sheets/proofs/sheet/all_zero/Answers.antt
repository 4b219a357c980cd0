use Rattle.texts.proofs.Loops.{loops}
use Rattle.sheets.proofs.sheet.all_zero.Goals as goal

pub loop-b-preserved : goal.loop-b-preserved
loop-b-preserved g c = search loops

pub returns : goal.returns
returns g c = search loops
