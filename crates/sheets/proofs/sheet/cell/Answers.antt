use borrow.Author.Rules.{rules}
use Rattle.sheets.specs.Sheet.{cell_of}
use Rattle.sheets.proofs.sheet.cell.Goals as goal

pub overflow_mul-a : goal.overflow_mul-a
unfolding cell_of
overflow_mul-a c = search rules

pub overflow_add-a : goal.overflow_add-a
unfolding cell_of
overflow_add-a c = search rules

pub returns : goal.returns
unfolding cell_of
returns c = cc
