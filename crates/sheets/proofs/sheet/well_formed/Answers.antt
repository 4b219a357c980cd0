use borrow.Author.Tests.{ne_eqb}
use mathlib.Core.Path.{◌∙◌}
use Rattle.sheets.specs.Sheet.{sheet_size}
use Rattle.sheets.proofs.Cells.{sheet-cells}
use Rattle.sheets.proofs.sheet.well_formed.Goals as goal

pub returns-then-sheet-ne-SHEET_SIZE : goal.returns-then-sheet-ne-SHEET_SIZE
returns-then-sheet-ne-SHEET_SIZE c = simp (ne_eqb _ sheet_size c.if-sheet-ne-SHEET_SIZE.true)

pub returns : goal.returns
returns c = c.cells_ok.ensures ∙ sheet-cells _ c.if-sheet-ne-SHEET_SIZE.false
