use mathlib.Core.Path.{refl}
use Rattle.orders.proofs.stream.gather.Goals as goal

pub post_stream-requires : goal.post_stream-requires
post_stream-requires c = c.fresh.ensures.start refl
