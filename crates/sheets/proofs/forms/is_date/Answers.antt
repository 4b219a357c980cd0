use borrow.Author.Rules.{rules}
use borrow.Author.Tests.{ne_eqb}
use Rattle.sheets.specs.Forms.{date}
use Rattle.sheets.proofs.Ways.{date-these}
use Rattle.sheets.proofs.forms.is_date.Goals as goal

pub returns-then-t-ne10 : goal.returns-then-t-ne10
unfolding date
returns-then-t-ne10 c = simp (ne_eqb _ 10 c.if-t-ne10.true)

pub returns : goal.returns
unfolding date
returns c = search (rules, date-these)
