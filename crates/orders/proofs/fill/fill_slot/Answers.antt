use borrow.Author.Rules.{rules}
use Rattle.orders.proofs.BlankSlots.{fill-blank, fill-given}
use Rattle.orders.proofs.fill.fill_slot.Goals as goal

pub returns-then-text-eq0 : goal.returns-then-text-eq0
returns-then-text-eq0 c = search (rules, fill-blank, fill-given)

pub returns-else-text-eq0 : goal.returns-else-text-eq0
returns-else-text-eq0 c = search (rules, fill-blank, fill-given)
