-- R-7: the order's date chooses the rules. What stays at the program's dates, as a statement that `Checked` makes.
use Rattle.std.specs.Prelude.{◌≡◌, Bool, not, ◌&&◌, List, [], ◌∷◌, ◌++◌, map, ℕ}
use Prim.Native.String.{String}
use Rattle.texts.specs.Texts.{every, ◌is_one_of◌, ◌begins◌}
use Rattle.texts.specs.Answers.{Answer, Test, ◌refuses◌, answer_by}
use Rattle.sheets.specs.Sheet.{Sheet, well_formed, ◌⟨◌⟩}
use Rattle.sheets.specs.Forms.{◌⇒◌}
use Rattle.sheets.specs.Lists.{account03100}
use Rattle.sheets.specs.Dates.{program_dates}
use Rattle.sheets.specs.declared.dates.Dates.{Dates}
use Rattle.rules.specs.Rules.{Rule, general, special, for_budget, order, class_of, class_a, status, test_of, keeps_all}
use Rattle.rules.specs.Verdicts.{class_name, broken_rule}
use Rattle.rules.specs.Requests.Before.{replaced, first_by}

-- before: document 01's list in rule 10, 02 not in rule 19, the others as they stand
abbrev pub statuses_before : String
statuses_before = "01 03 04 05 06 07 08 13 15 16 17 19 20 23 24 27 28 29 30 31 32 33"

abbrev pub treasury_before : String
treasury_before = "01 04 06 07 13 16 17 28 30 32"

abbrev pub rule10_before : Sheet → Bool
rule10_before s = s ⟨ 101 ⟩ is_one_of statuses_before

abbrev pub rule19_before : Sheet → Bool
rule19_before s = class_a s && status s treasury_before ⇒ s ⟨ 17 ⟩ begins account03100

unfoldable pub rules_before : List Rule
rules_before = general ++ map for_budget (map (replaced 10 rule10_before) (map (replaced 19 rule19_before) special))

-- no test of these looks at a date, and no date was tested: "1, 8"
unfoldable pub keeps_before : Dates → Sheet → ℕ → Bool
keeps_before D s n = test_of rules_before n D s

unfoldable pub tests_before : Dates → Sheet → List Test
tests_before D s = (not (well_formed s) refuses 1) ∷ broken_rule rules_before (first_by rules_before order D s) s ∷ []

unfoldable pub checked_before : Dates → Sheet → Answer
checked_before D s = answer_by (tests_before D s) (class_name (class_of s))

-- "The program uses the order date 20240101 and the three dates given here, so its output is the same as before": at these dates every sheet
-- is checked as before, whatever dates D the rules before are given, and keeps all rules exactly if it kept them before; a is the answer
-- at the program's dates
pub record AsBefore (D : Dates) (s : Sheet) (a : Answer) : Type 0 where
  pub answer : a ≡ checked_before D s
  pub kept : keeps_all program_dates s ≡ every (keeps_before D s) order
