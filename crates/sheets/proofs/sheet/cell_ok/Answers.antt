use borrow.Author.Rules.{rules}
use Rattle.sheets.specs.Sheet.{cell_ok}
use Rattle.sheets.proofs.sheet.cell_ok.Goals as goal

pub overflow_add-n : goal.overflow_add-n
unfolding cell_ok
overflow_add-n c = search rules

pub returns : goal.returns
unfolding cell_ok
returns c = cc
