use Prim.Native.Nat.{◌+◌, ◌*◌, ◌≤◌}
use lib.ListN.{take}
use Rattle.sheets.specs.Sheet.{slots}
use Rattle.report.specs.Report.{field_lines}
use Rattle.report.specs.Working.Page.{Puts}
use Rattle.report.proofs.end.put_fields.Given as goal

-- The slots before this one are written.
abbrev pub invariant-loop-slot : goal.invariant-loop-slot
invariant-loop-slot l = Puts l.fn.page (field_lines l.sheet (take l.slot slots)) l.page × (l.page.len ≤ l.fn.page.len + 47 * l.slot)
