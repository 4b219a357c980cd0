use borrow.Author.Rules.{rules}
use Rattle.texts.specs.Texts.{between}
use Rattle.sheets.proofs.Ways.{inn12-told}
use Rattle.sheets.proofs.forms.is_inn12.Goals as goal

pub returns-then-plain : goal.returns-then-plain
unfolding between
returns-then-plain c = search (rules, inn12-told)
