use mathlib.Core.List.{List}
use mathlib.Core.Path.{ap, ◌∙◌}
use Prim.Native.Nat.{ℕ}
use native.Mathlib.Omega.{arith}
use Rattle.texts.specs.Texts.{weighted}
use Rattle.texts.proofs.Numerals.{weights-short, weighted-more, weighted-done}
use Rattle.texts.proofs.digits.weighted_sum.Goals as goal

pub loop-i-init : goal.loop-i-init
loop-i-init c = (omega arith, omega arith, omega arith, weights-short _ _ c.part-first.ensures)

pub overflow_add-sum : goal.overflow_add-sum
overflow_add-sum c = record { fits = omega (arith, c.loop-i.invariant.2, c.loop-i.invariant.3, c.loop-i-test.true, c.weigh-sum.ensures.1) }

pub loop-i-preserved : goal.loop-i-preserved
loop-i-preserved c = (omega arith, weighted-more _ _ _ _ c.loop-i.invariant.1 _ _ c.loop-i-test.true c.at.ensures c.weigh-sum.ensures.0, omega (arith, c.loop-i.invariant.2, c.weigh-sum.ensures.1), c.loop-i.invariant.3)

pub returns : goal.returns
returns c = weighted-done _ _ _ _ c.loop-i.invariant.1 c.loop-i-test.false ∙ ap (λ (l : List ℕ). weighted l c.args.t.now) c.part-first.ensures
