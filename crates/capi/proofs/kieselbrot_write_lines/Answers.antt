use Rattle.std.proofs.Common.{rules}
use Rattle.capi.proofs.Numbers.{lines-written-is}
use Rattle.capi.proofs.kieselbrot_write_lines.Goals as goal

pub returns : goal.returns
returns c = search (rules, lines-written-is)
