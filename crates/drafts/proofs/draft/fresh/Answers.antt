use Rattle.drafts.proofs.DraftPromises.{begins}
use Rattle.drafts.proofs.draft.fresh.Goals as goal

pub returns-then-draft-ne-DRAFT_SIZE : goal.returns-then-draft-ne-DRAFT_SIZE
returns-then-draft-ne-DRAFT_SIZE c = search begins

pub returns : goal.returns
returns c = search begins
