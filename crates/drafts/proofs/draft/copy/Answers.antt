use Rattle.drafts.specs.Draft.{copy_tests}
use Rattle.drafts.proofs.DraftPromises.{copies, copy-out}
use Rattle.drafts.proofs.draft.copy.Goals as goal

pub returns-then-not-well_formed : goal.returns-then-not-well_formed
unfolding copy_tests
returns-then-not-well_formed c = search (copies, copy-out 0)

pub returns-then-sheet-ne-SHEET_SIZE : goal.returns-then-sheet-ne-SHEET_SIZE
unfolding copy_tests
returns-then-sheet-ne-SHEET_SIZE c = search (copies, copy-out 1)

pub returns : goal.returns
unfolding copy_tests
returns c = search (copies, copy-out 2)
