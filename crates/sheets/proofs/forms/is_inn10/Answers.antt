use borrow.Author.Rules.{rules}
use Rattle.texts.specs.Texts.{between}
use Rattle.sheets.proofs.Ways.{inn10-told}
use Rattle.sheets.proofs.forms.is_inn10.Goals as goal

pub returns-then-plain : goal.returns-then-plain
unfolding between
returns-then-plain c = search (rules, inn10-told)
