use Rattle.std.proofs.Common.{rules}
use Rattle.capi.proofs.Numbers.{completed-is}
use Rattle.capi.proofs.kieselbrot_complete.Goals as goal

pub returns : goal.returns
returns c = search (rules, completed-is)
