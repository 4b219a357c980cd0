use Rattle.sheets.specs.Working.Entries.{count_in}
use Rattle.sheets.proofs.InForce.{one-if}
use Rattle.sheets.proofs.entries.count_in.Goals as goal

pub returns : goal.returns
unfolding count_in
returns c = let f = c.args.force in cc (one-if f.s02, one-if f.s32, one-if f.s33)
