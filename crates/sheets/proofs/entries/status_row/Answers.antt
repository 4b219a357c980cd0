use borrow.Author.Rules.{rules}
use Rattle.sheets.proofs.Listed.{status-past-row, status-made}
use Rattle.sheets.proofs.entries.status_row.Goals as goal

pub returns-then-count_in-k : goal.returns-then-count_in-k
returns-then-count_in-k c = search (rules, status-past-row)

pub returns : goal.returns
returns c = status-made c.args.dates _ c.args.k _ _ c.force_of-force.ensures c.count_in.ensures c.if-count_in-k.false c.number_in-n.ensures
