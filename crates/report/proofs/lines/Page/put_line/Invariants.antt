use mathlib.Core.List.{◌++◌}
use lib.ListN.{take}
use Rattle.report.specs.Working.Page.{item_text, Puts}
use Rattle.report.proofs.Pages.{spaced}
use Rattle.report.proofs.lines.Page.put_line.Given as goal

-- The items before this one are written.
abbrev pub invariant-loop-other : goal.invariant-loop-other
invariant-loop-other l = Puts l.fn.self (item_text l.first ++ spaced (take l.other-index l.others)) l.self
