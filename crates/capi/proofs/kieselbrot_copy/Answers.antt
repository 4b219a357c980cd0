use Rattle.std.proofs.Common.{rules}
use Rattle.capi.proofs.Numbers.{copied_is}
use Rattle.capi.proofs.kieselbrot_copy.Goals as goal

pub returns : goal.returns
returns c = search (rules, copied_is)
