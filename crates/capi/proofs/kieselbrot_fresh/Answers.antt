use Rattle.std.proofs.Common.{rules}
use Rattle.capi.proofs.Numbers.{fresh-is}
use Rattle.capi.proofs.kieselbrot_fresh.Goals as goal

pub returns : goal.returns
returns c = search (rules, fresh-is)
