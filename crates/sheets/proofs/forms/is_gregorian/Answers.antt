use Rattle.sheets.proofs.Ways.{gregorian-early, gregorian-late}
use Rattle.sheets.proofs.forms.is_gregorian.Goals as goal

pub returns-then-d-le28 : goal.returns-then-d-le28
returns-then-d-le28 c = gregorian-early _ _ _ c.if-d-le28.true

pub returns : goal.returns
returns c = gregorian-late _ _ _ _ c.if-d-le28.false c.month_days.ensures
