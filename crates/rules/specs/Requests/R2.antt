-- R-2: letters in a KPP. What stays, as a statement that `Checked` makes of every answer.
use Rattle.std.specs.Prelude.{◌≡◌, Bool, ◌||◌, List, ◌++◌, map, ℕ}
use Rattle.texts.specs.Quoted.{Text}
use Rattle.texts.specs.Texts.{◌is◌, digits_not_00}
use Rattle.texts.specs.Answers.{Answer, success}
use Rattle.sheets.specs.Sheet.{Sheet, ◌⟨◌⟩}
use Rattle.rules.specs.Rules.{Rule, general, special, for_budget, order}
use Rattle.sheets.specs.declared.dates.Dates.{Dates}
use Rattle.rules.specs.Requests.Before.{replaced, checked_by}

-- before: rules 11 and 12 with "nine digits not beginning 00", the others as they stand
abbrev pub kpp_before : Text → Bool
kpp_before t = digits_not_00 9 t

abbrev pub rule11_before : Sheet → Bool
rule11_before s = s ⟨ 102 ⟩ is "0" || kpp_before (s ⟨ 102 ⟩)

abbrev pub rule12_before : Sheet → Bool
rule12_before s = kpp_before (s ⟨ 103 ⟩)

unfoldable pub rules_before : List Rule
rules_before = general ++ map for_budget (map (replaced 11 rule11_before) (map (replaced 12 rule12_before) special))

-- "Every sheet accepted before is still accepted", with the same class: of the answer a for the sheet s
abbrev pub StillAccepted : Dates → Sheet → Answer → Type 0
StillAccepted D s a = (c : List ℕ) → checked_by rules_before order D s ≡ success c → a ≡ success c
