use native.Mathlib.Omega.{arith}
use Rattle.texts.specs.Texts.{every, are, among, value_of, value, number}
use Rattle.sheets.proofs.Ways.{person-other, person-these}
use Rattle.sheets.proofs.forms.is_person.Goals as goal

pub returns-then-t-equals : goal.returns-then-t-equals
unfolding among are every number value value_of
returns-then-t-equals c = person-these _ _ _ c.part.ensures c.equals.ensures _ _ _ c.if-t-equals.true c.part-then-t-equals.ensures (c.number.ensures.value (omega arith)) c.is_among.ensures

pub returns-else-t-equals : goal.returns-else-t-equals
returns-else-t-equals c = person-other _ _ _ c.part.ensures c.equals.ensures c.if-t-equals.false
