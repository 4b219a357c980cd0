use native.Mathlib.Omega.{arith}
use Rattle.texts.proofs.Numerals.{weigh-fits}
use Rattle.texts.proofs.digits.weigh.Goals as goal

pub overflow_mul-result : goal.overflow_mul-result
overflow_mul-result c = record { fits = omega (arith, weigh-fits c.from.result c.from-2.result (omega (arith, c.from.ensures, c.well_formed.0)) (omega (arith, c.from-2.ensures, c.digit_value.ensures.1))) }

pub returns : goal.returns
returns c = (cc (c.from.ensures, c.from-2.ensures, c.digit_value.ensures.0), weigh-fits c.from.result c.from-2.result (omega (arith, c.from.ensures, c.well_formed.0)) (omega (arith, c.from-2.ensures, c.digit_value.ensures.1)))
