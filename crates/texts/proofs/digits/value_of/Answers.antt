use mathlib.Core.Path.{refl}
use native.Mathlib.Omega.{arith}
use Rattle.texts.proofs.Numerals.{value-shifts, value-adds, value-more, value-done}
use Rattle.texts.proofs.digits.value_of.Goals as goal

pub loop-b-init : goal.loop-b-init
loop-b-init c = (omega arith, refl, omega arith)

pub overflow_mul-n : goal.overflow_mul-n
overflow_mul-n c = record { fits = value-shifts c.args.t.now c.loop-b.b-index c.loop-b.n c.requires c.loop-b.invariant.2 c.loop-b-test.true }

pub overflow_add-n : goal.overflow_add-n
overflow_add-n c = record { fits = value-adds c.args.t.now c.loop-b.b-index c.loop-b.n c.requires c.loop-b.invariant.2 c.loop-b-test.true _ (omega (arith, c.digit_value.ensures.1, c.from.ensures)) }

pub loop-b-preserved : goal.loop-b-preserved
loop-b-preserved c = let m = value-more c.args.t.now c.loop-b.b-index c.loop-b.n c.requires c.loop-b.invariant.2 c.loop-b-test.true _ _ c.loop-b.invariant.1 c.digit_value.ensures c.from.ensures in (omega arith, m.0, m.1)

pub returns : goal.returns
returns c = value-done _ _ _ c.loop-b.invariant.1 c.loop-b.invariant.2 c.loop-b.invariant.0 c.loop-b-test.false
