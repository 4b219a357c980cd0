use Rattle.std.proofs.Common.{rules}
use Rattle.texts.specs.Working.Writing.{zeroed}
use Rattle.texts.proofs.buffers.clear.Goals as goal

pub returns : goal.returns
unfolding zeroed
returns c = c.fill.ensures.after (λ y h. search rules)
