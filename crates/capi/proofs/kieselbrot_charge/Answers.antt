use Rattle.std.proofs.Common.{rules}
use Rattle.capi.proofs.Numbers.{charged-is}
use Rattle.capi.proofs.kieselbrot_charge.Goals as goal

pub returns : goal.returns
returns c = search (rules, charged-is)
