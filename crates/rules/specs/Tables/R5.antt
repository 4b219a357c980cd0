-- R-5: rule 22 is tested ahead of rule 21. A table of the answers that change and their neighbours, shown true of the definitions by one
-- computation.
use Rattle.std.specs.Prelude.{◌≡◌, refl, true, false, List, [], ◌∷◌, map, ℕ}
use Rattle.texts.specs.Answers.{Answer}
use Rattle.sheets.specs.Dates.{program_dates}
use Rattle.rules.specs.Requests.Before.{tests_by, checked_by, broken}
use Rattle.rules.specs.Requests.R5.{caught, before}
use Rattle.rules.specs.Tables.Examples.{Change, ◌≔◌, accepted, sheet_with, answer}

-- ---- the table: differences from S, what was answered before, what is answered now

account : Change
account = 17 ≔ "03212643000000014800"

other : Change
other = 17 ≔ "03222643000000014800"

uin : Change
uin = 22 ≔ "12345678901234567890"

table : List (List Change × (Answer × Answer))
table =
    -- these move
    (account ∷ (101 ≔ "31") ∷ [], (broken 22 21, broken 22 22))
    ∷ (account ∷ (101 ≔ "33") ∷ [], (broken 22 21, broken 22 22))
    ∷ (account ∷ (101 ≔ "33") ∷ (108 ≔ "00") ∷ [], (broken 22 21, broken 22 22))
    ∷ (account ∷ (101 ≔ "31") ∷ (60 ≔ "0") ∷ (102 ≔ "0") ∷ [], (broken 22 21, broken 22 22))
    -- these stay: another code, another account, another status, an earlier rule, a later one
    ∷ (account ∷ (101 ≔ "31") ∷ (22 ≔ "1234") ∷ [], (broken 22 21, broken 22 21))
    ∷ (account ∷ (101 ≔ "33") ∷ (22 ≔ "1234") ∷ [], (broken 22 21, broken 22 21))
    ∷ (other ∷ (101 ≔ "33") ∷ [], (broken 22 21, broken 22 21))
    ∷ ((101 ≔ "33") ∷ [], (broken 22 21, broken 22 21))
    ∷ (account ∷ (101 ≔ "08") ∷ [], (broken 22 22, broken 22 22))
    ∷ (account ∷ [], (broken 17 19, broken 17 19))
    ∷ ((101 ≔ "31") ∷ [], (broken 17 20, broken 17 20))
    ∷ (account ∷ (101 ≔ "31") ∷ (109 ≔ "1") ∷ [], (broken 109 18, broken 109 18))
    ∷ (account ∷ (101 ≔ "33") ∷ (61 ≔ "0") ∷ [], (broken 61 9, broken 61 9))
    ∷ (account ∷ uin ∷ (101 ≔ "31") ∷ [], (accepted "A", accepted "A"))
    ∷ (account ∷ uin ∷ (101 ≔ "33") ∷ (108 ≔ "1") ∷ [], (broken 108 26, broken 108 26))
    ∷ (account ∷ (101 ≔ "33") ∷ (15 ≔ "") ∷ [], (broken 101 4, broken 101 4))
    ∷ (account ∷ (101 ≔ "") ∷ (15 ≔ "") ∷ [], (accepted "O", accepted "O"))
    ∷ ((14 ≔ "044525000") ∷ (15 ≔ "") ∷ (17 ≔ "40503810000004000000") ∷ (101 ≔ "31") ∷ [], (broken 22 21, broken 22 21))
    ∷ []

changed : map (λ (e : List Change × (Answer × Answer)). (before program_dates (sheet_with e.0), answer e.0)) table ≡ map (λ (e : List Change × (Answer × Answer)). e.1) table
unfolding answer table account other uin checked_by tests_by
changed = refl

-- the sheets of the table that are meant: the first four and no other
meant : map (λ (e : List Change × (Answer × Answer)). caught program_dates (sheet_with e.0)) table
    ≡ true ∷ true ∷ true ∷ true ∷ map (λ (n : ℕ). false) (1 ∷ 2 ∷ 3 ∷ 4 ∷ 5 ∷ 6 ∷ 7 ∷ 8 ∷ 9 ∷ 10 ∷ 11 ∷ 12 ∷ 13 ∷ 14 ∷ [])
unfolding answer table account other uin
meant = refl
