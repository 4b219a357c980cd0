-- R-7: at the program's dates completion is what it was before.
use mathlib.Core.Path.{◌≡◌, refl, ap, ◌∙◌, fun_ext}
use mathlib.Core.Bool.{Bool}
use mathlib.Core.List.{List, []}
use Prim.Native.Nat.{ℕ}
use lib.ListN.{get_or}
use Rattle.texts.specs.Quoted.{Text}
use Rattle.sheets.specs.Sheet.{Sheet}
use Rattle.sheets.specs.Dates.{program_dates}
use Rattle.sheets.specs.Tables.DatesTable.{programs, program-fits}
use Rattle.sheets.specs.declared.dates.Dates.{Dates}
use Rattle.rules.specs.Rules.{rules, basic, test_of, keeps, keeps_all, first_not, first_broken}
use Rattle.rules.specs.Requests.Before.{first_by}
use Rattle.rules.specs.Requests.R7.{rules_before}
use Rattle.rules.proofs.Dated.{as_before, fields-same}
use Rattle.drafts.specs.Draft.{draft_sheet}
use Rattle.fillings.specs.Fillings as of
use Rattle.fillings.specs.Filled as set
use Rattle.orders.specs.Fillings.{lists, list_of, set_of, first_filling}
use Rattle.orders.specs.Complete.{sheet_tests, complete_tests, completing, completed}
use Rattle.orders.specs.Requests.R7.{list_before, first_before, set_before, complete_tests_before, completing_before, completed_before, AsBefore}

lists-same : list_of program_dates ≡ list_before
unfolding list_of list_before
lists-same = fun_ext (λ k. ap (λ (ts : List Text). get_or (lists ts) k []) programs)

first-same : (D : Dates) (s : Sheet) → first_filling program_dates s ≡ first_before D s
unfolding first_before
first-same D s =
    ap (λ (L : ℕ → List Text). of.first_filling L (keeps_all program_dates) s) lists-same
    ∙ ap (λ (p : Sheet → Bool). of.first_filling list_before p s) (fun_ext (λ f. (as_before D f).kept))

set_same : (s : Sheet) → set_of program_dates s ≡ set_before s
unfolding set_before
set_same s = ap (λ (L : ℕ → List Text). set.set_of L s) lists-same

basic-same : (D : Dates) (s : Sheet) → first_broken program_dates s basic ≡ first_by rules_before basic D s
unfolding first_not keeps test_of rules rules_before
basic-same D s = refl

pub as-before-completed : (D : Dates) (d b : List ℕ) → AsBefore D d b
unfolding completing completed complete_tests sheet_tests completing_before completed_before complete_tests_before
as-before-completed D d b =
    let s = draft_sheet d in
    record {
      answer = rw (program-fits, basic-same D s, fields-same D s, first-same D s, set_same s);
      sheet = rw (program-fits, basic-same D s, first-same D s);
    }
