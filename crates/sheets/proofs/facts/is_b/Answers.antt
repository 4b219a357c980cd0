use native.Mathlib.Omega.{arith}
use Rattle.texts.specs.Texts.{every, any, are, among, value_of, value, number}
use Rattle.sheets.specs.Working.Facts.{is_b}
use Rattle.sheets.proofs.Ways.{b-low}
use Rattle.sheets.proofs.facts.is_b.Goals as goal

pub returns-then-lead-lt40204 : goal.returns-then-lead-lt40204
returns-then-lead-lt40204 c = b-low _ _ _ c.if-lead-lt40204.true

pub returns : goal.returns
unfolding is_b among any are every number value value_of
returns c = cc (c.number.ensures.value (omega arith))
