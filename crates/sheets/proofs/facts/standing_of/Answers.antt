use borrow.Author.Rules.{rules}
use Rattle.sheets.proofs.Ways.{standing-read}
use Rattle.sheets.proofs.facts.standing_of.Goals as goal

pub returns : goal.returns
returns c = search (rules, standing-read)
