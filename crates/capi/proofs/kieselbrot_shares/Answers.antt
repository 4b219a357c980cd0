use Rattle.std.proofs.Common.{rules}
use Rattle.capi.proofs.Numbers.{shared-is}
use Rattle.capi.proofs.kieselbrot_shares.Goals as goal

pub returns : goal.returns
returns c = search (rules, shared-is)
