use mathlib.Core.Path.{refl}
use native.Mathlib.Omega.{arith}
use Rattle.amounts.proofs.Sharing.{zeros-at}
use Rattle.registers.proofs.inns.Inns.none.Goals as goal

pub invariant_of-result : goal.invariant_of-result
invariant_of-result c = record { few = omega arith; hinted = record { size = refl; within = λ d. omega (arith, zeros-at 2048 d); behind = λ j l. absurd (omega arith) } }
