use lib.ListN.{take}
use Rattle.texts.specs.Working.Writing.{Wrote}
use Rattle.swift.specs.Working.Places.{joined}
use Rattle.swift.proofs.write.put_line.Given as goal

-- The pieces before this one are written.
abbrev pub invariant-loop-piece : goal.invariant-loop-piece
invariant-loop-piece l = Wrote l.initial.out l.at (joined (take l.piece-index l.pieces)) l.behind l.out
