use Rattle.sheets.proofs.Ways.{check-digit-is}
use Rattle.sheets.proofs.forms.has_check_digit.Goals as goal

pub returns : goal.returns
returns c = check-digit-is _ _ _ _ _ _ _ c.part-place.ensures c.at.ensures c.digit_value.ensures.0 c.from.ensures c.weighted_sum.ensures
