-- All broken rules of some sheets as one table, shown true of the definitions by one computation.
use Rattle.std.specs.Prelude.{◌≡◌, refl, List, [], ◌∷◌, map, ℕ}
use Rattle.texts.specs.Answers.{success, refusal}
use Rattle.sheets.specs.Dates.{program_dates}
use Rattle.sheets.specs.declared.dates.Dates.{Dates}
use Rattle.rules.specs.AllBroken.{bits_of, broken_set, break_tests, breaking}
use Rattle.rules.specs.Tables.Examples.{Change, ◌≔◌, sheet_with, answer}

-- differences from S, and the set of the rules that are broken
table : List (List Change × ℕ)
table =
    ([], 0)
    -- 10
    ∷ ((101 ≔ "02") ∷ [], 1024)
    -- 20 and 21
    ∷ ((101 ≔ "31") ∷ [], 3145728)
    -- 21 and 22
    ∷ ((17 ≔ "03212643000000014800") ∷ (101 ≔ "31") ∷ [], 6291456)
    -- 35
    ∷ ((101 ≔ "24") ∷ (60 ≔ "0") ∷ (102 ≔ "0") ∷ (108 ≔ "14;12345678900") ∷ [], 34359738368)
    -- 1
    ∷ ((14 ≔ "") ∷ [], 2)
    -- 1, 10, 31 and 34: those for classes A and B count where one of rules 1 to 3 is broken
    ∷ ((14 ≔ "") ∷ (101 ≔ "99") ∷ (109 ≔ "00") ∷ [], 19327353858)
    -- 3 and 5
    ∷ ((17 ≔ "03100") ∷ [], 40)
    -- 1 and 4: an ordinary payment
    ∷ ((14 ≔ "1") ∷ (15 ≔ "") ∷ [], 18)
    -- 30, in class B
    ∷ ((14 ≔ "044525000") ∷ (15 ≔ "") ∷ (17 ≔ "40503810000004000000") ∷ (101 ≔ "06") ∷ [], 1073741824)
    -- 30, 33 and 34
    ∷ ((101 ≔ "06") ∷ (106 ≔ "00") ∷ [], 26843545600)
    ∷ []

examples : map (λ (e : List Change × ℕ). breaking program_dates (sheet_with e.0)) table ≡ map (λ (e : List Change × ℕ). success (e.1 ∷ [])) table
unfolding answer table bits_of broken_set break_tests breaking
examples = refl

-- 1, then 12: a malformed sheet at a date that is refused
early : Dates
early = record { order = record { 0 = 20230924 }; first32 = record { 0 = 20231001 }; first33 = record { 0 = 20240101 }; last02 = record { 0 = 20231231 } }

refusals : (breaking early [] ≡ refusal 1 []) × (breaking early (sheet_with []) ≡ refusal 12 [])
unfolding answer early break_tests breaking
refusals = (refl, refl)
