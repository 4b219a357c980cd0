use Rattle.drafts.specs.Message.{write_tests}
use Rattle.drafts.proofs.MessagePromises.{writing, write-out}
use Rattle.drafts.proofs.message.write.Goals as goal

pub returns-then-n-gt-TEXT_MAX : goal.returns-then-n-gt-TEXT_MAX
unfolding write_tests
returns-then-n-gt-TEXT_MAX c = search (writing, write-out 0)

pub returns-then-not-known : goal.returns-then-not-known
unfolding write_tests
returns-then-not-known c = search (writing, write-out 1)

pub returns-then-not-allows : goal.returns-then-not-allows
unfolding write_tests
returns-then-not-allows c = search (writing, write-out 2)

pub returns-then-slot_of-eq-SLOT_COUNT : goal.returns-then-slot_of-eq-SLOT_COUNT
unfolding write_tests
returns-then-slot_of-eq-SLOT_COUNT c = search (writing, write-out 3)

pub returns-then-revision-eq0 : goal.returns-then-revision-eq0
unfolding write_tests
returns-then-revision-eq0 c = search (writing, write-out 4)

pub returns-then-buffer-n : goal.returns-then-buffer-n
unfolding write_tests
returns-then-buffer-n c = search (writing, write-out 5)

pub returns : goal.returns
unfolding write_tests
returns c = search (writing, write-out 6)
