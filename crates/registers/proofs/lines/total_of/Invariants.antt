use mathlib.Core.Path.{◌≡◌}
use lib.ListN.{take}
use Rattle.registers.specs.Register.{lines_of, total_of}
use Rattle.registers.proofs.lines.total_of.Given as goal

abbrev pub invariant-loop-line : goal.invariant-loop-line
invariant-loop-line l = l.sum ≡ total_of (take l.line-index (lines_of l.register))
