use borrow.Author.Rules.{rules}
use Rattle.orders.proofs.Listing.{only-first, only-past}
use Rattle.orders.proofs.entry.only_row.Goals as goal

pub returns-then-place-eq0 : goal.returns-then-place-eq0
returns-then-place-eq0 c = search (rules, only-first)

pub returns : goal.returns
returns c = search (rules, only-past)
