use Rattle.sheets.proofs.Listed.{document-entry}
use Rattle.sheets.proofs.entries.document_entry.Goals as goal

pub returns : goal.returns
returns c = document-entry c.args.k
