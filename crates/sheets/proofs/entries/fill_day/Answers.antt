use mathlib.Core.Path.{◌≡◌, ap, ◌∙◌}
use Rattle.sheets.specs.Working.Entries.{day_at, with_all}
use Rattle.sheets.specs.declared.facts.Day.{Day}
use Rattle.sheets.proofs.Frames.{blank-so, given-so, day-filled}
use Rattle.sheets.proofs.entries.fill_day.Goals as goal
use Rattle.sheets.proofs.entries.fill_day.Goals.{then-f, else-f}

pub returns : goal.returns
returns c =
    let g = c.args.g in
    let e : c.if-f.day ≡ day_at c.args.f c.args.k =
    elim c.if-f.branch [
      | then-f w ↦ blank-so _ _ _ w.if-f.true (w.day-is ∙ w.day_entry-day.ensures)
      | else-f w ↦ given-so _ _ _ w.if-f.false w.day-is
    ] in
    (λ D s t o p q. day-filled D _ _ c.args.k s t o p q _ e, ap (λ (y : Day). with_all g g.status g.basis g.document y) e)
