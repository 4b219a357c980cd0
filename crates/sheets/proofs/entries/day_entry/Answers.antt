use Rattle.sheets.proofs.Listed.{day-entry}
use Rattle.sheets.proofs.entries.day_entry.Goals as goal

pub returns : goal.returns
returns c = day-entry c.args.k
