use Rattle.orders.proofs.Streaming.{streamed}
use Rattle.orders.proofs.stream.complete_stream.Goals as goal

pub returns : goal.returns
returns c = streamed _ _ _ _ _ _ c.gather-draft.ensures c.complete.ensures
