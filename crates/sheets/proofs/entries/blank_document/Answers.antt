use mathlib.Core.Path.{refl}
use Rattle.sheets.proofs.Frames.{blank-fields}
use Rattle.sheets.proofs.entries.blank_document.Goals as goal

pub returns : goal.returns
returns c = (λ D s o. (blank-fields D c.args.f s o).1.1.0, refl)
