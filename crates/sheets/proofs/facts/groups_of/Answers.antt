use borrow.Author.Rules.{rules}
use Rattle.sheets.proofs.Sets.{groups-made}
use Rattle.sheets.proofs.facts.groups_of.Goals as goal

pub returns : goal.returns
returns c = search (rules, groups-made)
