use Rattle.std.proofs.Common.{rules}
use Rattle.capi.proofs.Numbers.{pooled-is}
use Rattle.capi.proofs.kieselbrot_pool.Goals as goal

pub returns : goal.returns
returns c = search (rules, pooled-is)
