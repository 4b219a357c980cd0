use Rattle.std.proofs.Common.{arith}
use Rattle.texts.proofs.Big.{number_more}
use Rattle.texts.proofs.numbers.number_of.Goals as goal

pub loop-b-preserved : goal.loop-b-preserved
loop-b-preserved g c = λ h. let v = c.loop-b.invariant h in number_more c.args.bytes c.loop-b.b-index c.loop-b.n c.from.result (omega arith) (omega arith) v.0 v.1 c.from.ensures (omega arith)
