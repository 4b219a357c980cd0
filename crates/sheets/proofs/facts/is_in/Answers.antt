use borrow.Author.Tests.{lt-ltb, le-ltb}
use Rattle.sheets.specs.Working.Facts.{in_set}
use Rattle.sheets.proofs.facts.is_in.Goals as goal

pub returns-then-n-lt64 : goal.returns-then-n-lt64
unfolding in_set
returns-then-n-lt64 c = simp (lt-ltb _ 64 c.if-n-lt64.true)

pub returns-else-n-lt64 : goal.returns-else-n-lt64
unfolding in_set
returns-else-n-lt64 c = simp (le-ltb _ 64 c.if-n-lt64.false)
