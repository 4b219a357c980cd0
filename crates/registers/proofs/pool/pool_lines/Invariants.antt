use Rattle.registers.proofs.Outputs.{SoFar}
use Rattle.registers.proofs.pool.pool_lines.Given as goal

abbrev pub invariant-loop-line : goal.invariant-loop-line
invariant-loop-line l = SoFar l.register l.initial.output l.line-index l.inns.count l.inns.numbers l.output
