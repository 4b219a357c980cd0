-- R-7: the order's date chooses the rules. What was answered before, and a table of answers at dates on both sides of each end, shown true of the
-- definitions by one computation each.
use Rattle.std.specs.Prelude.{◌≡◌, refl, List, [], ◌∷◌, map}
use Rattle.texts.specs.Answers.{Answer, refusal}
use Rattle.sheets.specs.Dates.{program_dates}
use Rattle.sheets.specs.Tables.DatesTable.{dates_of, given}
use Rattle.sheets.specs.declared.dates.Dates.{Dates}
use Rattle.rules.specs.Verdicts.{checked}
use Rattle.rules.specs.Tables.Examples.{Change, ◌≔◌, accepted, sheet_with, answer}
use Rattle.rules.specs.Requests.Before.{broken}
use Rattle.rules.specs.Requests.R7.{rules_before, tests_before, checked_before}

-- what was accepted before and what was not
was : List Change → Answer
was cs = checked_before program_dates (sheet_with cs)

beforehand :
    map was ([] ∷ ((101 ≔ "02") ∷ []) ∷ ((101 ≔ "02") ∷ (17 ≔ "03222643000000014800") ∷ []) ∷ ((101 ≔ "01") ∷ (17 ≔ "03222643000000014800") ∷ []) ∷ ((101 ≔ "09") ∷ []) ∷ [])
    ≡ accepted "A" ∷ broken 101 10 ∷ broken 101 10 ∷ broken 17 19 ∷ broken 101 10 ∷ []
unfolding answer was rules_before checked_before tests_before
beforehand = refl

undated : Answer
undated = refusal 12 []

other : Change
other = 17 ≔ "03222643000000014800"

uin : Change
uin = 22 ≔ "11111111111111111111"

table : List (Dates × (List Change × Answer))
table =
    -- 02 up to its last date, that day included; in rule 19 and in no other
    (given 20231231, ((101 ≔ "02") ∷ [], accepted "A"))
    ∷ (given 20240101, ((101 ≔ "02") ∷ [], broken 101 10))
    ∷ (dates_of 20240101 20231001 20240101 20240101, ((101 ≔ "02") ∷ [], accepted "A"))
    ∷ (given 20231231, (other ∷ (101 ≔ "02") ∷ [], broken 17 19))
    ∷ (given 20240101, (other ∷ (101 ≔ "02") ∷ [], broken 101 10))
    ∷ (given 20231231, ((101 ≔ "02") ∷ (102 ≔ "0") ∷ [], broken 102 27))
    -- 33 and 32 from their first dates on
    ∷ (given 20231231, (uin ∷ (101 ≔ "33") ∷ [], broken 101 10))
    ∷ (given 20240101, (uin ∷ (101 ≔ "33") ∷ [], accepted "A"))
    ∷ (given 20230930, ((101 ≔ "32") ∷ (107 ≔ "10000000") ∷ [], broken 101 10))
    ∷ (given 20231001, ((101 ≔ "32") ∷ (107 ≔ "10000000") ∷ [], accepted "A"))
    -- what 12 refuses
    ∷ (given 20230924, ([], undated))
    ∷ (given 20230925, ([], accepted "A"))
    ∷ (given 20991231, ([], accepted "A"))
    ∷ (given 21000101, ([], undated))
    ∷ (given 0, ([], undated))
    ∷ (given 202401010, ([], undated))
    ∷ (given 4294967295, ([], undated))
    ∷ (given 20230931, ([], undated))
    ∷ (given 20231301, ([], undated))
    ∷ (given 20231200, ([], undated))
    ∷ (given 20240229, ([], accepted "A"))
    ∷ (given 20240230, ([], undated))
    ∷ (dates_of 20240101 19000101 20991231 20000229, ([], accepted "A"))
    ∷ (dates_of 20240101 20230229 20240101 20231231, ([], undated))
    ∷ (dates_of 20240101 20231001 19000229 20231231, ([], undated))
    ∷ (dates_of 20240101 20231001 20240101 20231232, ([], undated))
    -- ahead of 8, of class O too
    ∷ (given 20230924, ((14 ≔ "1") ∷ [], undated))
    ∷ (given 20230924, ((15 ≔ "") ∷ (101 ≔ "") ∷ [], undated))
    ∷ []

dated : map (λ (e : Dates × (List Change × Answer)). checked e.0 (sheet_with e.1.0)) table ≡ map (λ (e : Dates × (List Change × Answer)). e.1.1) table
unfolding answer table undated other uin
dated = refl

-- behind 1
malformed : checked (given 0) [] ≡ refusal 1 []
unfolding answer
malformed = refl
