use mathlib.Core.Path.{◌≡◌}
use Prim.Native.Nat.{◌+◌, ◌*◌, ◌≤◌}
use lib.ListN.{length, drop}
use Rattle.texts.specs.Texts.{weighted}
use Rattle.texts.proofs.digits.weighted_sum.Given as goal

abbrev pub invariant-loop-i : goal.invariant-loop-i
invariant-loop-i l = (l.i ≤ length l.first) × (weighted l.first l.t ≡ l.sum + weighted (drop l.i l.first) (drop l.i l.t)) × (l.sum ≤ l.i * 2295) × (length l.first ≤ 25)
