use Rattle.sheets.specs.Forms.{document}
use Rattle.sheets.proofs.forms.is_document.Goals as goal

pub returns : goal.returns
unfolding document
returns c = cc
