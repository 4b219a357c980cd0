use Rattle.texts.proofs.Loops.{AllSoFar}
use Rattle.texts.specs.Texts.{digit}
use Rattle.texts.proofs.digits.all_digits.Given as goal

abbrev pub invariant-loop-b : goal.invariant-loop-b
invariant-loop-b l = AllSoFar digit l.t l.good l.b-index
