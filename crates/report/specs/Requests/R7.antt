-- R-7: the report before the order's date was asked.
use Rattle.std.specs.Prelude.{List, [], ◌∷◌, ◌++◌, ℕ, suc}
use Rattle.texts.specs.Quoted.{Text}
use Rattle.sheets.specs.declared.dates.Dates.{Dates}
use Rattle.drafts.specs.Draft.{fresh_draft, posting_of, posted_to}
use Rattle.orders.specs.Requests.R7.{completing_before, completed_before}
use Rattle.orders.specs.Stream.{messages_of}
use Rattle.report.specs.Report.{message_line, end_lines, no_sheet}

-- as `report_from` and `report_of`, whatever dates D the rules before are given
unfoldable pub report_from_before : Dates → ℕ → List ℕ → List (List ℕ) → Text
report_from_before D n d [] = end_lines (completing_before D d no_sheet) (completed_before D d no_sheet)
report_from_before D n d (m ∷ ms) = message_line n (posting_of d m) ++ report_from_before D (suc n) (posted_to d m) ms

unfoldable pub report_before : Dates → List ℕ → Text
report_before D i = report_from_before D 1 fresh_draft (messages_of i)
