-- R-7: what completion answered and left before the order's date was asked; that it is the same at the program's dates is stated here, and
-- proved in proofs/Dated.
use Rattle.std.specs.Prelude.{◌≡◌, not, List, [], ◌∷◌, ℕ, eqb, length, get_or}
use Rattle.std.specs.Int.Count.{ones}
use Rattle.texts.specs.Quoted.{Text, words}
use Rattle.texts.specs.Texts.{every}
use Rattle.texts.specs.Answers.{Answer, Test, ◌refuses◌, ◌refuses◌with◌, answer_by, buffer_by}
use Rattle.sheets.specs.Sheet.{Sheet, sheet_size}
use Rattle.sheets.specs.Dates.{program_dates}
use Rattle.sheets.specs.declared.dates.Dates.{Dates}
use Rattle.rules.specs.Rules.{budget, basic, order}
use Rattle.rules.specs.Verdicts.{broken_rule}
use Rattle.rules.specs.Requests.Before.{first_by}
use Rattle.rules.specs.Requests.R7.{statuses_before, rules_before, keeps_before}
use Rattle.drafts.specs.Draft.{draft_formed, draft_sheet}
use Rattle.fillings.specs.Fillings as of
use Rattle.fillings.specs.Filled as set
use Rattle.orders.specs.Fillings.{lists}
use Rattle.orders.specs.Complete.{nothing, counted, sheet_in, completing, completed}

-- document 01's lists, and the rules before
unfoldable pub list_before : ℕ → List Text
list_before k = get_or (lists (words statuses_before)) k []

unfoldable pub first_before : Dates → Sheet → of.Look Sheet
first_before D s = of.first_filling list_before (λ (f : Sheet). every (keeps_before D f) order) s

unfoldable pub set_before : Sheet → ℕ
set_before s = set.set_of list_before s

-- 1, 7, 8, 9, 10: no date was tested
unfoldable pub complete_tests_before : Dates → List ℕ → List ℕ → List Test
complete_tests_before D d b =
    (not (draft_formed d) refuses 1)
    ∷ (not (eqb (length b) sheet_size) refuses 7)
    ∷ broken_rule rules_before (first_by rules_before basic D (draft_sheet d)) (draft_sheet d)
    ∷ (not (budget (draft_sheet d)) refuses 9)
    ∷ (nothing (first_before D (draft_sheet d)) refuses 10 with (counted (first_before D (draft_sheet d)) ∷ []))
    ∷ []

unfoldable pub completing_before : Dates → List ℕ → List ℕ → Answer
completing_before D d b = answer_by (complete_tests_before D d b) (counted (first_before D (draft_sheet d)) ∷ set_before (draft_sheet d) ∷ ones (set_before (draft_sheet d)) ∷ [])

unfoldable pub completed_before : Dates → List ℕ → List ℕ → List ℕ
completed_before D d b = buffer_by (complete_tests_before D d b) (sheet_in b (first_before D (draft_sheet d))) b

-- "so its output is the same as before": answer and sheet, of every draft and buffer, whatever dates D the rules before are given
pub record AsBefore (D : Dates) (d b : List ℕ) : Type 0 where
  pub answer : completing program_dates d b ≡ completing_before D d b
  pub sheet : completed program_dates d b ≡ completed_before D d b
