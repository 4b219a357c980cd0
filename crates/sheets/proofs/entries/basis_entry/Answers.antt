use Rattle.sheets.proofs.Listed.{basis-entry}
use Rattle.sheets.proofs.entries.basis_entry.Goals as goal

pub returns : goal.returns
returns c = basis-entry c.args.k
