use mathlib.Core.Path.{◌≡◌, ap, ◌∙◌}
use Rattle.sheets.specs.Working.Entries.{document_at, with_all}
use Rattle.sheets.specs.declared.facts.Document.{Document}
use Rattle.sheets.proofs.Frames.{blank-so, given-so, document-filled}
use Rattle.sheets.proofs.entries.fill_document.Goals as goal
use Rattle.sheets.proofs.entries.fill_document.Goals.{then-f, else-f}

pub returns : goal.returns
returns c =
    let g = c.args.g in
    let e : c.if-f.document ≡ document_at c.args.f c.args.k =
    elim c.if-f.branch [
      | then-f w ↦ blank-so _ _ _ w.if-f.true (w.document-is ∙ w.document_entry-document.ensures)
      | else-f w ↦ given-so _ _ _ w.if-f.false w.document-is
    ] in
    (λ D s t o p q. document-filled D _ _ c.args.k s t o p q _ e, ap (λ (y : Document). with_all g g.status g.basis y g.day) e)
