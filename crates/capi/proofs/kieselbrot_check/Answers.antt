use Rattle.std.proofs.Common.{rules}
use Rattle.capi.proofs.Numbers.{checked-is}
use Rattle.capi.proofs.kieselbrot_check.Goals as goal

pub returns : goal.returns
returns c = search (rules, checked-is)
