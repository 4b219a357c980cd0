use Rattle.texts.proofs.Between.{parts}
use Rattle.texts.proofs.parts.part.Goals as goal

pub slice_bounds-result-end : goal.slice_bounds-result-end
slice_bounds-result-end c = search parts

pub returns-then-t-a : goal.returns-then-t-a
returns-then-t-a c = search parts

pub slice_bounds-result-end-then-e-a : goal.slice_bounds-result-end-then-e-a
slice_bounds-result-end-then-e-a c = search parts

pub returns-then-e-a : goal.returns-then-e-a
returns-then-e-a c = search parts

pub slice_bounds-result-count : goal.slice_bounds-result-count
slice_bounds-result-count c = search parts

pub slice_bounds-result-start : goal.slice_bounds-result-start
slice_bounds-result-start c = search parts

pub slice_bounds-result-end-then-t-e : goal.slice_bounds-result-end-then-t-e
slice_bounds-result-end-then-t-e c = search parts

pub returns-then-t-e : goal.returns-then-t-e
returns-then-t-e c = search parts

pub slice_bounds-result-count-2 : goal.slice_bounds-result-count-2
slice_bounds-result-count-2 c = search parts

pub slice_bounds-result-start-2 : goal.slice_bounds-result-start-2
slice_bounds-result-start-2 c = search parts

pub slice_bounds-result-end-2 : goal.slice_bounds-result-end-2
slice_bounds-result-end-2 c = search parts

pub returns : goal.returns
returns c = search parts
