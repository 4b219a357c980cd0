use mathlib.Core.Path.{refl, sym, ap, ◌∙◌}
use mathlib.Core.Bool.{not}
use native.Mathlib.Nat.{mul-le-mul}
use native.Mathlib.Omega.{arith}
use Rattle.orders.proofs.Pacing.{none_passes}
use Rattle.orders.proofs.search.search.Goals as goal

pub overflow_mul-result : goal.overflow_mul-result
overflow_mul-result c = record { fits = omega (arith, mul-le-mul c.statuses_of-statuses.ensures.1 c.fillings_of.ensures.1) }

pub returns-then-not-kept_fixed : goal.returns-then-not-kept_fixed
returns-then-not-kept_fixed c D s o = none_passes c.kept_fixed.ensures.0 (ap not c.if-not-kept_fixed.true) D s o _ _ _ refl (c.statuses_of-statuses.ensures.0 D s o.read) (c.fillings_of.ensures.0 D s o.read)

pub walk_kept-requires : goal.walk_kept-requires
walk_kept-requires c D s r b = sym c.if-not-kept_fixed.false ∙ c.kept_fixed.ensures.0 D s r b

pub returns : goal.returns
returns c = c.walk_kept.ensures
