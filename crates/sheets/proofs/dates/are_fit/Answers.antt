use Rattle.sheets.specs.Dates.{dates_fit}
use Rattle.sheets.proofs.Ways.{fit-given}
use Rattle.sheets.proofs.dates.are_fit.Goals as goal

pub returns-then-given : goal.returns-then-given
unfolding dates_fit
returns-then-given c = fit-given c.args.dates _ c.if-given.true c.is_day_number.ensures

pub returns : goal.returns
unfolding dates_fit
returns c = cc
