use borrow.Author.Rules.{rules}
use Rattle.report.proofs.Decimals.{decimal-short}
use Rattle.report.proofs.messages.shown.Goals as goal

pub returns-in-Err : goal.returns-in-Err
returns-in-Err c = search (rules, decimal-short)
