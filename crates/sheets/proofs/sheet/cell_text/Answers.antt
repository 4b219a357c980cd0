use borrow.Author.Rules.{rules}
use Rattle.texts.specs.Texts.{between}
use Rattle.sheets.specs.Sheet.{cell_text}
use Rattle.sheets.proofs.sheet.cell_text.Goals as goal

pub overflow_add-result : goal.overflow_add-result
unfolding cell_text between
overflow_add-result c = search rules

pub slice_bounds-result-count : goal.slice_bounds-result-count
unfolding cell_text between
slice_bounds-result-count c = search rules

pub slice_bounds-result-start : goal.slice_bounds-result-start
unfolding cell_text between
slice_bounds-result-start c = search rules

pub slice_bounds-result-end : goal.slice_bounds-result-end
unfolding cell_text between
slice_bounds-result-end c = search rules

pub returns-then-n-c : goal.returns-then-n-c
unfolding cell_text between
returns-then-n-c c = cc

pub overflow_add-n : goal.overflow_add-n
unfolding cell_text between
overflow_add-n c = search rules

pub returns : goal.returns
unfolding cell_text between
returns c = cc
