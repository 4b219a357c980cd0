use borrow.Author.Rules.{rules}
use Rattle.sheets.proofs.Sets.{lead_low, lead-in}
use Rattle.sheets.proofs.facts.is_lead_a.Goals as goal

pub returns-then-lead-lt3212 : goal.returns-then-lead-lt3212
returns-then-lead-lt3212 c = search (rules, lead_low)

pub returns : goal.returns
returns c = search (rules, lead-in)
