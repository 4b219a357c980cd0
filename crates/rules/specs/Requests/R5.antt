-- R-5: rule 22 is tested ahead of rule 21. The answers that change, exactly, as a statement that `Checked` makes of every answer.
use Rattle.std.specs.Prelude.{◌≡◌, ◌↔◌, Bool, true, false, ◌&&◌, List, [], ◌∷◌, ◌++◌, ℕ}
use Rattle.texts.specs.Texts.{every, ◌is◌, ◌begins◌}
use Rattle.texts.specs.Answers.{Answer}
use Rattle.sheets.specs.Sheet.{Sheet, well_formed, ◌⟨◌⟩}
use Rattle.sheets.specs.Lists.{account03212, courts_group}
use Rattle.rules.specs.Rules.{rules, status, keeps, keeps_all}
use Rattle.sheets.specs.Dates.{dates_fit}
use Rattle.sheets.specs.declared.dates.Dates.{Dates}
use Rattle.rules.specs.Requests.Before.{checked_by, broken}

-- before: "Tested in number order"
abbrev pub up_to20 : List ℕ
up_to20 = 1 ∷ 2 ∷ 3 ∷ 4 ∷ 5 ∷ 6 ∷ 7 ∷ 8 ∷ 9 ∷ 10 ∷ 11 ∷ 12 ∷ 13 ∷ 14 ∷ 15 ∷ 16 ∷ 17 ∷ 18 ∷ 19 ∷ 20 ∷ []

abbrev pub from23 : List ℕ
from23 = 23 ∷ 24 ∷ 25 ∷ 26 ∷ 27 ∷ 28 ∷ 29 ∷ 30 ∷ 31 ∷ 32 ∷ 33 ∷ 34 ∷ 35 ∷ []

abbrev pub order_before : List ℕ
order_before = up_to20 ++ (21 ∷ 22 ∷ from23)

-- "17 begins 03212, status 31 or 33, 22 "0", rules 1 to 20 kept"
abbrev pub caught : Dates → Sheet → Bool
caught D s = (s ⟨ 17 ⟩ begins account03212 && status s courts_group) && (s ⟨ 22 ⟩ is "0" && every (keeps D s) up_to20)

abbrev pub before : Dates → Sheet → Answer
before D s = checked_by rules order_before D s

-- "The answers that change are exactly these ..": of a well-formed sheet, "They were field 22, rule 21, and become field 22, rule 22.
-- Nothing else moves, acceptance included". a is the answer now.
pub record Moved (D : Dates) (s : Sheet) (a : Answer) : Type 0 where
  pub exactly : (before D s ≡ a → ⊥) ↔ (caught D s ≡ true)
  pub was : caught D s ≡ true → before D s ≡ broken 22 21
  pub becomes : caught D s ≡ true → a ≡ broken 22 22
  pub stays : caught D s ≡ false → before D s ≡ a

pub record MovedOnly (D : Dates) (s : Sheet) (a : Answer) : Type 0 where
  pub moved : well_formed s ≡ true → dates_fit D ≡ true → Moved D s a
  pub malformed : well_formed s ≡ false → before D s ≡ a
  pub undated : dates_fit D ≡ false → before D s ≡ a
  -- which sheets keep all rules did not move, so that completion, which asks that, answers as before
  pub kept : every (keeps D s) order_before ≡ keeps_all D s
