use Rattle.drafts.specs.Message.{read_tests}
use Rattle.drafts.proofs.MessagePromises.{reading, window-fits, read_out}
use Rattle.drafts.proofs.message.read.Goals as goal

pub returns-then-not-framed : goal.returns-then-not-framed
unfolding read_tests
returns-then-not-framed c = search (reading, read_out 0)

pub returns-then-not-known : goal.returns-then-not-known
unfolding read_tests
returns-then-not-known c = search (reading, read_out 1)

pub returns-then-not-takes : goal.returns-then-not-takes
unfolding read_tests
returns-then-not-takes c = search (reading, read_out 2)

pub field_and_revision-body-requires : goal.field_and_revision-body-requires
unfolding read_tests
field_and_revision-body-requires c = window-fits _ _ _ _ c.framed.ensures c.if-not-framed.false c.takes.ensures c.if-not-takes.false

pub returns-then-not-known-2 : goal.returns-then-not-known-2
unfolding read_tests
returns-then-not-known-2 c = search (reading, read_out 3)

pub returns-then-slot_of-eq-SLOT_COUNT : goal.returns-then-slot_of-eq-SLOT_COUNT
unfolding read_tests
returns-then-slot_of-eq-SLOT_COUNT c = search (reading, read_out 4)

pub returns-then-number-eq0 : goal.returns-then-number-eq0
unfolding read_tests
returns-then-number-eq0 c = search (reading, read_out 5)

pub returns : goal.returns
unfolding read_tests
returns c = search (reading, read_out 6)
