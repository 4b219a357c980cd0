use Rattle.std.proofs.Common.{rules}
use Rattle.capi.proofs.Listed.{listed-is}
use Rattle.capi.proofs.kieselbrot_entry.Goals as goal

pub returns : goal.returns
returns c = search (rules, listed-is)
