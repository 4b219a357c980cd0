use Rattle.texts.proofs.Refusals.{tested}
use Rattle.amounts.specs.Shares.{share_tests, share_answer}
use Rattle.amounts.proofs.Sharing.{share-out, shared}
use Rattle.amounts.proofs.shares.shares.Goals as goal

pub returns-then-not-is_sharable : goal.returns-then-not-is_sharable
unfolding share_tests share_answer
returns-then-not-is_sharable c = search (tested, share-out 0)

pub returns : goal.returns
unfolding share_tests share_answer
returns c = search (tested, shared, share-out 1)
