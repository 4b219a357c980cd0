use Rattle.sheets.proofs.Ways.{facts-is, facts-other}
use Rattle.sheets.proofs.facts.+empty_facts_facts_of.Goals as goal

pub facts_of-returns-then-sheet-ne-SHEET_SIZE : goal.facts_of-returns-then-sheet-ne-SHEET_SIZE
facts_of-returns-then-sheet-ne-SHEET_SIZE t c = facts-other _ _ _ c.if-sheet-ne-SHEET_SIZE.true c.empty_facts.ensures

pub facts_of-returns : goal.facts_of-returns
facts_of-returns t c =
    facts-is _ _ _ _ _ _ _ _ _ _ _ _ _ _ c.banking_of-banking.ensures c.parties_of-parties.ensures c.classifiers_of-classifiers.ensures
    c.force_of-force.ensures c.text.ensures c.standing_of-status.ensures c.text-2.ensures c.basis_of-basis.ensures
    c.text-3.ensures c.document_of-document.ensures c.text-4.ensures c.day_of-day.ensures c.if-sheet-ne-SHEET_SIZE.false
