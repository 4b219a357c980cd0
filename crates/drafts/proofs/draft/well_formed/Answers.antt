use Rattle.drafts.proofs.Slots.{forms}
use Rattle.drafts.proofs.draft.well_formed.Goals as goal

pub returns : goal.returns
returns c = search forms
