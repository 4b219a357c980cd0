use mathlib.Core.Path.{◌≡◌, ap, ◌∙◌}
use Rattle.sheets.specs.Working.Entries.{basis_at, with_all}
use Rattle.sheets.specs.declared.facts.Basis.{Basis}
use Rattle.sheets.proofs.Frames.{blank-so, given-so, basis-filled}
use Rattle.sheets.proofs.entries.fill_basis.Goals as goal
use Rattle.sheets.proofs.entries.fill_basis.Goals.{then-f, else-f}

pub returns : goal.returns
returns c =
    let g = c.args.g in
    let e : c.if-f.basis ≡ basis_at c.args.f c.args.k =
    elim c.if-f.branch [
      | then-f w ↦ blank-so _ _ _ w.if-f.true (w.basis-is ∙ w.basis_entry-basis.ensures)
      | else-f w ↦ given-so _ _ _ w.if-f.false w.basis-is
    ] in
    (λ D s t o p q. basis-filled D _ _ c.args.k s t o p q _ e, ap (λ (y : Basis). with_all g g.status y g.document g.day) e)
