use Rattle.std.proofs.Common.{rules}
use Rattle.capi.proofs.BrokenNumbers.{broken-is}
use Rattle.capi.proofs.kieselbrot_broken_rules.Goals as goal

pub returns : goal.returns
returns c = search (rules, broken-is)
