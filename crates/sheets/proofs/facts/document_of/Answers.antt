use borrow.Author.Rules.{rules}
use Rattle.sheets.specs.Working.Facts.{document_of}
use Rattle.sheets.proofs.Ways.{document-listed}
use Rattle.sheets.proofs.facts.document_of.Goals as goal

pub returns-then-equals : goal.returns-then-equals
unfolding document_of
returns-then-equals c = search (rules, document-listed 0)

pub returns-then-equals-2 : goal.returns-then-equals-2
unfolding document_of
returns-then-equals-2 c = search (rules, document-listed 1)

pub returns : goal.returns
unfolding document_of
returns c = cc
