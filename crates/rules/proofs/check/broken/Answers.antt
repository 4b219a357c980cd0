use Rattle.rules.proofs.Judging.{broken-judged}
use Rattle.rules.proofs.check.broken.Goals as goal

pub returns-then-is_ordinary : goal.returns-then-is_ordinary
returns-then-is_ordinary c = broken-judged _ _ _ _ _ c.is_ordinary.ensures c.if-is_ordinary.true c.general_outcomes.ensures c.first_broken.ensures

pub returns : goal.returns
returns c = broken-judged _ _ _ _ _ c.is_ordinary.ensures c.if-is_ordinary.false c.outcomes.ensures c.first_broken-2.ensures
