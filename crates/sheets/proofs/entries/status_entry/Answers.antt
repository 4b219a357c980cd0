use borrow.Author.Rules.{rules}
use Rattle.sheets.proofs.Listed.{status-past, status-entry}
use Rattle.sheets.proofs.entries.status_entry.Goals as goal

pub returns-then-count_in-k : goal.returns-then-count_in-k
returns-then-count_in-k c = search (rules, status-past)

pub returns : goal.returns
returns c = search (rules, status-entry)
