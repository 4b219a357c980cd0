use Rattle.std.proofs.Common.{rules}
use Rattle.capi.proofs.Numbers.{parted-is}
use Rattle.capi.proofs.kieselbrot_part.Goals as goal

pub returns : goal.returns
returns c = search (rules, parted-is)
