use Rattle.texts.proofs.Refusals.{tested}
use Rattle.amounts.specs.Part.{part_tests, part_answer}
use Rattle.amounts.proofs.Parting.{part_out, parted}
use Rattle.amounts.proofs.part.part.Goals as goal

pub returns-then-not-is_partable : goal.returns-then-not-is_partable
unfolding part_tests part_answer
returns-then-not-is_partable c = search (tested, part_out 0)

pub returns : goal.returns
unfolding part_tests part_answer
returns c = search (tested, parted, part_out 1)
