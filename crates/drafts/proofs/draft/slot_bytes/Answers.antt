use Rattle.drafts.proofs.DraftPromises.{begins}
use Rattle.drafts.proofs.draft.slot_bytes.Goals as goal

pub returns : goal.returns
returns c = search begins
