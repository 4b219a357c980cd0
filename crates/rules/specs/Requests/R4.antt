-- R-4: check digits of the INN. What was accepted before, as a statement that `Checked` makes of every answer.
use Rattle.std.specs.Prelude.{◌≡◌, Bool, ◌&&◌, ◌||◌, List, ◌++◌, map, ℕ}
use Rattle.texts.specs.Quoted.{Text}
use Rattle.texts.specs.Texts.{◌is◌, digits_not_00}
use Rattle.texts.specs.Answers.{Answer, success}
use Rattle.sheets.specs.Sheet.{Sheet, ◌⟨◌⟩}
use Rattle.sheets.specs.Forms.{◌⇒◌, uin, foreign_code, person}
use Rattle.sheets.specs.Lists.{personal_group, want_inn, want_ten, want_twelve, want_zero}
use Rattle.rules.specs.Rules.{Rule, general, special, for_budget, order, status}
use Rattle.sheets.specs.declared.dates.Dates.{Dates}
use Rattle.rules.specs.Requests.Before.{replaced, checked_by}

-- before: "10 or 12 digits not beginning 00 (an INN)" in rules 8, 9, 23, 24 and 25, the others as they stand
abbrev pub inn10_before : Text → Bool
inn10_before t = digits_not_00 10 t

abbrev pub inn12_before : Text → Bool
inn12_before t = digits_not_00 12 t

abbrev pub inn_before : Text → Bool
inn_before t = inn10_before t || inn12_before t

abbrev pub rule8_before : Sheet → Bool
rule8_before s = (s ⟨ 60 ⟩ is "0" || foreign_code (s ⟨ 60 ⟩)) || inn_before (s ⟨ 60 ⟩)

abbrev pub rule9_before : Sheet → Bool
rule9_before s = inn10_before (s ⟨ 61 ⟩)

abbrev pub rule23_before : Sheet → Bool
rule23_before s =
    (status s want_inn ⇒ inn_before (s ⟨ 60 ⟩))
    && ((status s want_ten ⇒ inn10_before (s ⟨ 60 ⟩)) && ((status s want_twelve ⇒ inn12_before (s ⟨ 60 ⟩)) && (status s want_zero ⇒ s ⟨ 60 ⟩ is "0")))

abbrev pub rule24_before : Sheet → Bool
rule24_before s = status s "13" ⇒ inn_before (s ⟨ 60 ⟩) || uin (s ⟨ 22 ⟩)

abbrev pub rule25_before : Sheet → Bool
rule25_before s =
    status s personal_group
    ⇒ person (s ⟨ 108 ⟩) || (s ⟨ 108 ⟩ is "0" && (inn12_before (s ⟨ 60 ⟩) || uin (s ⟨ 22 ⟩)))

unfoldable pub rules_before : List Rule
rules_before =
    general
    ++ map for_budget
    (map (replaced 8 rule8_before)
    (map (replaced 9 rule9_before) (map (replaced 23 rule23_before) (map (replaced 24 rule24_before) (map (replaced 25 rule25_before) special)))))

-- every sheet accepted now, with the answer a, was accepted before, with the same class
abbrev pub AcceptedBefore : Dates → Sheet → Answer → Type 0
AcceptedBefore D s a = (c : List ℕ) → a ≡ success c → checked_by rules_before order D s ≡ success c
