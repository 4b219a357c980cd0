use Rattle.texts.specs.Texts.{are}
use Rattle.texts.proofs.Loops.{AllSoFar}
use Rattle.sheets.proofs.sheet.all_zero.Given as goal

abbrev pub invariant-loop-b : goal.invariant-loop-b
invariant-loop-b g l = AllSoFar (are 0) l.t l.good l.b-index
