use mathlib.Core.Path.{◌≡◌}
use mathlib.Core.Bool.{true}
use Prim.Native.Nat.{ℕ, ◌<◌}
use Rattle.sheets.specs.declared.dates.Dates.{Dates}
use Rattle.orders.specs.TakeUp.{spared}
use Rattle.orders.proofs.take_up.first_unfit.Given as goal

abbrev pub invariant-loop-slot : goal.invariant-loop-slot
invariant-loop-slot l = (D : Dates) (i : ℕ) → i < l.slot → spared D l.draft l.sheet l.set i ≡ true
