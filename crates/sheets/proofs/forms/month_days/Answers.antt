use borrow.Author.Rules.{rules}
use Rattle.texts.specs.Texts.{any, are, among}
use Rattle.sheets.specs.Forms.{month_days}
use Rattle.sheets.proofs.Ways.{month-30, month-31}
use Rattle.sheets.proofs.forms.month_days.Goals as goal

pub returns-then-is_leap : goal.returns-then-is_leap
unfolding month_days among any are
returns-then-is_leap c = cc

pub returns-in-4 : goal.returns-in-4
unfolding month_days among any are
returns-in-4 c = search (rules, month-30)

pub returns-else-is_leap : goal.returns-else-is_leap
unfolding month_days among any are
returns-else-is_leap c = cc

pub returns-in_default : goal.returns-in_default
unfolding month_days among any are
returns-in_default c = search (rules, month-31)
