use Rattle.orders.proofs.Paying.{pays-broken, pays-not, pays-all}
use Rattle.orders.proofs.payment.facts_of_payment.Goals as goal

pub returns-in-Some : goal.returns-in-Some
returns-in-Some c = pays-broken _ _ _ c.facts_of-facts.ensures.0 _ c.broken_basic.ensures.0 _ c.in-Some.is _ c.field_of.ensures

pub returns-then-not-is_budget : goal.returns-then-not-is_budget
returns-then-not-is_budget c = pays-not _ _ _ c.facts_of-facts.ensures.0 _ c.broken_basic.ensures.0 c.in_default.is _ c.is_budget.ensures.0 c.if-not-is_budget.true

pub returns : goal.returns
returns c = pays-all _ _ _ c.facts_of-facts.ensures.0 _ c.broken_basic.ensures.0 c.in_default.is _ c.is_budget.ensures.0 c.if-not-is_budget.false
