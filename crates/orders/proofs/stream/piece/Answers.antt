use native.Mathlib.Omega.{arith}
use Rattle.orders.proofs.Streaming.{piece_is}
use Rattle.orders.proofs.stream.piece.Goals as goal

pub returns : goal.returns
returns c = piece_is _ _ _ _ _ c.at.ensures c.at-2.ensures (c.number_of.ensures.value (omega arith)) c.part.ensures
