use borrow.Author.Rules.{rules}
use Rattle.sheets.proofs.Ways.{snils-other, snils-these}
use Rattle.sheets.proofs.forms.is_snils.Goals as goal

pub returns-then-not-has_digits : goal.returns-then-not-has_digits
returns-then-not-has_digits c = search (rules, snils-other)

pub returns : goal.returns
returns c = search (rules, snils-these)
