use Rattle.texts.proofs.Refusals.{tested}
use Rattle.amounts.specs.Charge.{charge_tests, charge_answer}
use Rattle.amounts.proofs.Charging.{charge-out, charged}
use Rattle.amounts.proofs.charge.charge.Goals as goal

pub returns-then-not-is_chargeable : goal.returns-then-not-is_chargeable
unfolding charge_tests charge_answer
returns-then-not-is_chargeable c = search (tested, charge-out 0)

pub returns : goal.returns
unfolding charge_tests charge_answer
returns c = search (tested, charged, charge-out 1)
