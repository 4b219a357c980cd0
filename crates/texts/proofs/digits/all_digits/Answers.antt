use Rattle.texts.proofs.Loops.{loops}
use Rattle.texts.proofs.digits.all_digits.Goals as goal

pub loop-b-init : goal.loop-b-init
loop-b-init c = search loops

pub loop-b-preserved : goal.loop-b-preserved
loop-b-preserved c = search loops

pub returns : goal.returns
returns c = search loops
