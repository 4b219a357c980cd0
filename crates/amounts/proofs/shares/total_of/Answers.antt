use Rattle.std.proofs.Common.{rules}
use Rattle.std.proofs.iter.runs.Made.{chains}
use Rattle.amounts.proofs.Sharing.{sum-total}
use Rattle.amounts.proofs.shares.total_of.Goals as goal

pub returns : goal.returns
returns c = sum-total c.args.periods.now _ (search (rules, chains))
