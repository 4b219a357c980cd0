use borrow.Author.Rules.{rules}
use Rattle.sheets.proofs.Ways.{day-told}
use Rattle.sheets.proofs.dates.is_day_number.Goals as goal

pub returns : goal.returns
returns c = search (rules, day-told)
