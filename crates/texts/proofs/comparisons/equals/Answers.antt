use Rattle.std.proofs.Common.{◌∙◌}
use Rattle.texts.proofs.Std.{same_pointwise}
use Rattle.texts.proofs.comparisons.equals.Goals as goal

pub returns : goal.returns
returns c = c.eq.ensures ∙ same_pointwise c.args.t.now c.args.u.now
