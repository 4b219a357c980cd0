use Rattle.sheets.specs.Forms.{leap}
use Rattle.sheets.proofs.forms.is_leap.Goals as goal

pub returns : goal.returns
unfolding leap
returns c = cc
