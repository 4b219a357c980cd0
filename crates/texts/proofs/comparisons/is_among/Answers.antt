use Rattle.std.proofs.Common.{◌∙◌}
use Rattle.texts.proofs.Std.{any-list_any}
use Rattle.texts.proofs.comparisons.is_among.Goals as goal

pub returns : goal.returns
returns g c = c.contains.ensures.value ∙ any-list_any _ c.args.l.now
