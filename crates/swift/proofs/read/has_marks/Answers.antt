use Rattle.swift.proofs.Cutting.{marks-not, marks-are}
use Rattle.swift.proofs.read.has_marks.Goals as goal

pub returns-then-n-lt112 : goal.returns-then-n-lt112
returns-then-n-lt112 c = marks-not c.args.block.now c.then-n-lt112.either

pub returns : goal.returns
returns c = search marks-are
