use mathlib.Core.Path.{◌≡◌, refl, ap, ◌∙◌}
use Rattle.sheets.specs.Working.Entries.{status_at, with_all}
use Rattle.sheets.specs.declared.facts.Standing.{Standing}
use Rattle.sheets.proofs.Frames.{blank-so, given-so, status-filled}
use Rattle.sheets.proofs.entries.fill_status.Goals as goal
use Rattle.sheets.proofs.entries.fill_status.Goals.{then-f, else-f}

pub returns : goal.returns
returns c =
    let f = c.args.f in
    let e : c.if-f.status ≡ status_at c.args.f c.args.k =
    elim c.if-f.branch [
      | then-f w ↦ blank-so _ _ _ w.if-f.true (w.status-is ∙ w.status_entry-status.ensures)
      | else-f w ↦ given-so _ _ _ w.if-f.false w.status-is
    ] in
    (λ D s o. status-filled D _ _ c.args.k s s o o refl _ e, ap (λ (y : Standing). with_all f y f.basis f.document f.day) e)
