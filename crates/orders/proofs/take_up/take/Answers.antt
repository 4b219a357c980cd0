use borrow.Author.Rules.{rules}
use Rattle.orders.proofs.TakeUp.{number_more, took}
use Rattle.orders.proofs.take_up.take.Goals as goal

pub overflow_add-revision : goal.overflow_add-revision
overflow_add-revision c = search (rules, number_more)

pub returns : goal.returns
returns c = search (rules, took)
