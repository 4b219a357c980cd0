use Rattle.std.proofs.Common.{rules}
use Rattle.capi.proofs.Numbers.{lines-read-is}
use Rattle.capi.proofs.kieselbrot_read_lines.Goals as goal

pub returns : goal.returns
returns c = search (rules, lines-read-is)
