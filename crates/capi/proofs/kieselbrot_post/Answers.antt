use Rattle.std.proofs.Common.{rules}
use Rattle.capi.proofs.Numbers.{posted-is}
use Rattle.capi.proofs.kieselbrot_post.Goals as goal

pub returns : goal.returns
returns c = search (rules, posted-is)
