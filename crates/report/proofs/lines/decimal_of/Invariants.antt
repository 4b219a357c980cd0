use mathlib.Core.Path.{◌≡◌}
use mathlib.Core.List.{◌++◌}
use Prim.Native.Nat.{◌≤◌}
use lib.ListN.{length, drop}
use Rattle.report.specs.Lines.{decimal_in, decimal}
use Rattle.report.proofs.lines.decimal_of.Given as goal

-- The digits from place `from` on are found, and `rest` is the number before them.
abbrev pub invariant-loop-from : goal.invariant-loop-from
invariant-loop-from l =
    (l.from ≤ 20) × (length l.digits ≡ 20) × (decimal l.n ≡ decimal_in l.from l.rest ++ drop l.from l.digits)
