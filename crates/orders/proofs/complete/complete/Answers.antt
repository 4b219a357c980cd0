use Rattle.orders.proofs.complete.complete.Goals as goal

pub returns : goal.returns
returns c = c.quick.ensures.completes
