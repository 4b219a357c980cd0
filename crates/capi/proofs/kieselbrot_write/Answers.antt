use Rattle.std.proofs.Common.{rules}
use Rattle.capi.proofs.Numbers.{written_is}
use Rattle.capi.proofs.kieselbrot_write.Goals as goal

pub returns : goal.returns
returns c = search (rules, written_is)
