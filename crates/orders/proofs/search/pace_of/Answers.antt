use Rattle.orders.specs.Working.Found.{pace_of}
use Rattle.orders.proofs.search.pace_of.Goals as goal

pub returns-then-kept : goal.returns-then-kept
unfolding pace_of
returns-then-kept c = rw c.if-kept.true

pub returns-else-kept : goal.returns-else-kept
unfolding pace_of
returns-else-kept c = rw c.if-kept.false
