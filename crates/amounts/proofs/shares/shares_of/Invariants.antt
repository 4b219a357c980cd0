use mathlib.Core.Path.{◌≡◌}
use Prim.Native.Nat.{◌+◌, ◌≤◌}
use lib.ListN.{length, drop}
use Rattle.amounts.specs.Part.{quotient_of}
use Rattle.amounts.specs.Shares.{total}
use Rattle.amounts.proofs.Sharing.{Putting}
use Rattle.amounts.proofs.shares.shares_of.Given as goal

abbrev pub invariant-loop-i : goal.invariant-loop-i
invariant-loop-i l =
    (l.i ≤ length l.periods) × (total l.periods ≡ l.days + total (drop l.i l.periods)) × (l.before ≡ quotient_of l.amount l.days l.year) × Putting l.amount l.year l.periods l.i l.places l.days
