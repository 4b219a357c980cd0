use Rattle.sheets.proofs.Listed.{status-count}
use Rattle.sheets.proofs.entries.status_count.Goals as goal

pub returns : goal.returns
returns c = status-count c.args.f _ c.count_in.ensures
