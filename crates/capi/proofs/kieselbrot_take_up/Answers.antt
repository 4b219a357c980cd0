use Rattle.std.proofs.Common.{rules}
use Rattle.capi.proofs.Numbers.{taken_is}
use Rattle.capi.proofs.kieselbrot_take_up.Goals as goal

pub returns : goal.returns
returns c = search (rules, taken_is)
