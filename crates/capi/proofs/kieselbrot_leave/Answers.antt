use Rattle.std.proofs.Common.{rules}
use Rattle.capi.proofs.Numbers.{left_is}
use Rattle.capi.proofs.kieselbrot_leave.Goals as goal

pub returns : goal.returns
returns c = search (rules, left_is)
