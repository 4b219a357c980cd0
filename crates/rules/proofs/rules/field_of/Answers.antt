use borrow.Author.Rules.{rules}
use Rattle.rules.proofs.Judging.{field-six, field-other}
use Rattle.rules.proofs.rules.field_of.Goals as goal

pub returns-then-n-eq6 : goal.returns-then-n-eq6
returns-then-n-eq6 c = search (rules, field-six, field-other)

pub returns : goal.returns
returns c = search (rules, field-six, field-other)
