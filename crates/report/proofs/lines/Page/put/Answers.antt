use mathlib.Core.Path.{refl, ◌∙◌}
use Rattle.texts.proofs.Puts.{put-fits}
use Rattle.report.proofs.lines.Page.put.Goals as goal

pub returns : goal.returns
returns c = record { same = refl; wrote = (c.put.ensures ∙ put-fits _ _ _ c.requires, refl) }
