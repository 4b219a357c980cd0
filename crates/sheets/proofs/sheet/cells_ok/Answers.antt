use Rattle.std.proofs.Common.{rules, tests, ◌+◌, ℕ, ◌*◌, refl, ◌∙◌}
use Rattle.std.proofs.lemmas.Iterator.{YieldsList-from_range}
use Rattle.std.proofs.lemmas.Iterator.Search.{all_from_yields_List}
use Rattle.sheets.proofs.Cells.{cell-inside, cell-past, cells-all}
use Rattle.sheets.specs.Sheet.{slot_count}
use Rattle.sheets.specs.Working.Cells.{cell_at}
use Rattle.sheets.proofs.sheet.cells_ok.Goals as goal

pub returns : goal.returns
returns c =
    let t = c.args.t.now in
    let first = c.args.first in
    let step = c.args.step in
    all_from_yields_List (λ (k : ℕ). cell_at t (first + k * step)) _ _ c.all.result c.all.ensures.ran (YieldsList-from_range 0 slot_count slot_count refl refl) (λ x b q k. search (rules, tests, cell-inside, cell-past))
    ∙ cells-all step t first slot_count
