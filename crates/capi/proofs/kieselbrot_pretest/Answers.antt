use Rattle.std.proofs.Common.{rules}
use Rattle.capi.proofs.Numbers.{pretested-is}
use Rattle.capi.proofs.kieselbrot_pretest.Goals as goal

pub returns : goal.returns
returns c = search (rules, pretested-is)
