use Rattle.capi.proofs.Numbers.{read-found, read-refused}
use Rattle.capi.proofs.kieselbrot_read.Goals as goal

pub returns-in-Ok : goal.returns-in-Ok
returns-in-Ok c = read-found _ _ c.read.ensures _ c.message_text-text.ensures c.in-Ok.heading c.in-Ok.is _ c.head_size.ensures

pub returns-in-Err : goal.returns-in-Err
returns-in-Err c = read-refused _ _ c.read.ensures _ c.message_text-text.ensures c.in-Err.refusal c.in-Err.is _ c.from.ensures
