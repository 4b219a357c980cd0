use Rattle.std.proofs.Common.{◌≡◌, ◌-◌, drop, length}
use Rattle.texts.specs.Numbers.{bytes_of, bytes_before}
use Rattle.texts.proofs.numbers.bytes_of.Given as goal

abbrev pub invariant-loop-k : goal.invariant-loop-k
invariant-loop-k g l = (bytes_of g.row.N l.n ≡ bytes_before (g.row.N - l.k) l.rest (drop (g.row.N - l.k) l.bytes)) × (length l.bytes ≡ g.row.N)
