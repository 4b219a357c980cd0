use borrow.Author.Rules.{rules}
use borrow.Author.Tests.{ne_eqb}
use Rattle.sheets.proofs.Kpps.{kpp-nine}
use Rattle.sheets.proofs.Ways.{kpp-these}
use Rattle.sheets.proofs.forms.is_kpp.Goals as goal

pub returns-then-has_digits : goal.returns-then-has_digits
returns-then-has_digits c = search (rules, kpp-nine)

pub returns-then-t-ne9 : goal.returns-then-t-ne9
returns-then-t-ne9 c = simp (ne_eqb _ 9 c.if-t-ne9.true)

pub returns : goal.returns
returns c = search (rules, kpp-these)
