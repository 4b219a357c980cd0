use mathlib.Core.Path.{◌≡◌}
use Prim.Native.Nat.{◌≤◌, ◌<◌, ◌^◌}
use lib.ListN.{length, drop}
use Rattle.texts.specs.Texts.{value}
use Rattle.texts.proofs.digits.value_of.Given as goal

abbrev pub invariant-loop-b : goal.invariant-loop-b
invariant-loop-b l = (l.b-index ≤ length l.t) × (value 0 l.t ≡ value l.n (drop l.b-index l.t)) × (l.n < 10 ^ l.b-index)
