use mathlib.Core.Path.{◌∙◌}
use Rattle.orders.proofs.Streaming.{ends-not, ends_by}
use Rattle.orders.proofs.stream.ends_stream.Goals as goal

pub returns-in-Ok : goal.returns-in-Ok
returns-in-Ok c = ends-not _ _ c.read.ensures _ c.in-Ok.is

pub returns-in-Err : goal.returns-in-Err
returns-in-Err c = c.eq.ensures ∙ ends_by _ _ c.read.ensures _ c.in-Err.is
