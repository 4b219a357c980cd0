use Rattle.std.proofs.Common.{◌∙◌}
use Rattle.texts.proofs.Std.{begins_pointwise}
use Rattle.texts.proofs.comparisons.begins_with.Goals as goal

pub returns : goal.returns
returns c = c.starts_with.ensures.value ∙ begins_pointwise c.args.t.now c.args.u.now
