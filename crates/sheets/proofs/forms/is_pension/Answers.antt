use borrow.Author.Rules.{rules}
use Rattle.sheets.proofs.Ways.{pension-other, pension-these}
use Rattle.sheets.proofs.forms.is_pension.Goals as goal

pub returns-then-not-begins_with : goal.returns-then-not-begins_with
returns-then-not-begins_with c = search (rules, pension-other)

pub returns : goal.returns
returns c = search (rules, pension-these)
