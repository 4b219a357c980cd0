use Rattle.std.proofs.Common.{◌≡◌, ◌≤◌, ◌<◌, ◌^◌, take}
use Rattle.texts.specs.Numbers.{big_from}
use Rattle.texts.proofs.numbers.number_of.Given as goal

abbrev pub invariant-loop-b : goal.invariant-loop-b
invariant-loop-b g l = g.row.N ≤ 8 → (l.n ≡ big_from 0 (take l.b-index l.b-items)) × (l.n < 256 ^ l.b-index)
