use Rattle.drafts.proofs.DraftPromises.{sheets, sheet-other}
use Rattle.drafts.proofs.draft.put_sheet.Goals as goal

pub returns-then-draft-ne-DRAFT_SIZE : goal.returns-then-draft-ne-DRAFT_SIZE
returns-then-draft-ne-DRAFT_SIZE c = sheet-other _ _ (λ p. c.if-draft-ne-DRAFT_SIZE.true p.0)

pub returns-then-sheet-ne-SHEET_SIZE : goal.returns-then-sheet-ne-SHEET_SIZE
returns-then-sheet-ne-SHEET_SIZE c = sheet-other _ _ (λ p. c.if-sheet-ne-SHEET_SIZE.true p.1)

pub returns : goal.returns
returns c = search sheets
