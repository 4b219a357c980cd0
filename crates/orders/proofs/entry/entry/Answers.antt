use borrow.Author.Rules.{rules}
use Rattle.orders.proofs.Listing.{told}
use Rattle.orders.proofs.entry.entry.Goals as goal

pub returns-then-not-are_fit : goal.returns-then-not-are_fit
returns-then-not-are_fit c = search (rules, told)

pub returns-then-slot-eq-SLOT_COUNT : goal.returns-then-slot-eq-SLOT_COUNT
returns-then-slot-eq-SLOT_COUNT c = search (rules, told)

pub returns-then-row-eq0 : goal.returns-then-row-eq0
returns-then-row-eq0 c = search (rules, told)

pub returns : goal.returns
returns c = search (rules, told)
