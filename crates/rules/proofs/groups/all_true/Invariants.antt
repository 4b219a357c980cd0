use Prim.Native.Nat.{◌≤◌}
use mathlib.Core.Path.{◌≡◌}
use mathlib.Core.Bool.{◌&&◌}
use lib.ListN.{length, drop}
use Rattle.rules.specs.Working.Tests.{all_true}
use Rattle.rules.proofs.groups.all_true.Given as goal

abbrev pub invariant-loop-kept : goal.invariant-loop-kept
invariant-loop-kept l = (l.kept-index ≤ length l.outcomes) × (all_true l.outcomes ≡ (l.all && all_true (drop l.kept-index l.outcomes)))
