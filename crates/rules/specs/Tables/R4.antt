-- R-4: check digits of the INN. The answers that change, with their neighbours, and what was answered before, shown true of the definitions by one
-- computation each.
use Rattle.std.specs.Prelude.{◌≡◌, refl, List, [], ◌∷◌, ◌++◌, map}
use Prim.Native.String.{String}
use Rattle.texts.specs.Answers.{Answer}
use Rattle.rules.specs.Rules.{order}
use Rattle.sheets.specs.Dates.{program_dates}
use Rattle.rules.specs.Requests.Before.{tests_by, checked_by, broken}
use Rattle.rules.specs.Requests.R4.{rules_before}
use Rattle.rules.specs.Tables.Examples.{Change, ◌≔◌, accepted, sheet_with, answer, Right, varied}

-- ---- the table: S with each text of a line in 60 (in 61), and S of status 17 with each in 60

abbrev twelve : List Change
twelve = (101 ≔ "17") ∷ (107 ≔ "10000000") ∷ (102 ≔ "0") ∷ []

-- the tenth digit by the nine before it, one weight after another; a remainder of 10 is written 0
ten_kept : String
ten_kept =
    "7701569743 7727406020 0100000004 7700000070 1000000002 2000000004 1100000006 1010000001 1001000005 1000100007 1000010000 1000001006 1000000108 1000000010"

-- of ten digits: a digit off, two exchanged, 00 in front with the right tenth; what is not ten digits
ten_refused : String
ten_refused = "7722222222 9909601234 7701569744 7701569734 7710569743 0000000000 0012345673 770156974A 770156974 77015697430"

-- the eleventh by ten, the twelfth by eleven, one weight after another
twelve_kept : String
twelve_kept =
    "781023456779 123456789047 780000000000 100000000074 200000000038 110000000095 101000000005 100100000060 100010000002 100001000013 100000100054 100000010001 100000001021 100000000148"

-- the eleventh off, the twelfth, both; 00 in front with the right two; what is not twelve digits
twelve_refused : String
twelve_refused = "781023456789 781023456889 781023456778 781023456769 781023456786 000000000000 001234567887 78102345677A 78102345677 7810234567799"

table : List (List Change × Answer)
table =
    map (λ (d : List Change). (d, accepted "A")) (varied [] 60 ten_kept ++ (varied [] 61 ten_kept ++ varied twelve 60 twelve_kept))
    ++ map (λ (d : List Change). (d, broken 60 8)) (varied [] 60 ten_refused ++ varied twelve 60 twelve_refused)
    ++ map (λ (d : List Change). (d, broken 61 9)) (varied [] 61 ten_refused ++ varied [] 61 "6730054025 781023456779")
    -- a foreign code has no check digits; status 30 wants "0", and 60 of digits breaks 8 first; class B
    ++ (((60 ≔ "12345") ∷ (101 ≔ "08") ∷ [], accepted "A")
    ∷ ((60 ≔ "7722222222") ∷ (101 ≔ "30") ∷ (107 ≔ "10000000") ∷ [], broken 60 8)
    ∷ ((60 ≔ "7701569743") ∷ (101 ≔ "30") ∷ (107 ≔ "10000000") ∷ [], broken 60 23)
    ∷ ((60 ≔ "781023456789") ∷ (101 ≔ "13") ∷ (102 ≔ "0") ∷ [], broken 60 8)
    ∷ ((60 ≔ "781023456779") ∷ (101 ≔ "13") ∷ (102 ≔ "0") ∷ [], accepted "A")
    ∷ ((60 ≔ "781023456779") ∷ (101 ≔ "24") ∷ (102 ≔ "0") ∷ [], accepted "A")
    ∷ ((14 ≔ "044525000") ∷ (15 ≔ "") ∷ (17 ≔ "40503810000004000000") ∷ (61 ≔ "6730054025") ∷ [], broken 61 9)
    ∷ ((15 ≔ "") ∷ (101 ≔ "") ∷ (60 ≔ "7722222222") ∷ (61 ≔ "1") ∷ [], accepted "O")
    ∷ [])

changed : Right table
unfolding answer table varied ten_kept ten_refused twelve_kept twelve_refused
changed = refl

-- what was answered before: accepted with a digit off, refused for 00 in front
was : List Change → Answer
was cs = checked_by rules_before order program_dates (sheet_with cs)

beforehand :
    map was (
    []
    ∷ ((60 ≔ "7722222222") ∷ [])
    ∷ ((61 ≔ "6730054025") ∷ [])
    ∷ (twelve ++ ((60 ≔ "781023456789") ∷ []))
    ∷ ((60 ≔ "781023456789") ∷ (101 ≔ "24") ∷ (102 ≔ "0") ∷ [])
    ∷ ((60 ≔ "7722222222") ∷ (101 ≔ "13") ∷ [])
    ∷ ((60 ≔ "0000000000") ∷ [])
    ∷ ((61 ≔ "0000000000") ∷ [])
    ∷ ((60 ≔ "781023456789") ∷ (101 ≔ "06") ∷ (102 ≔ "0") ∷ (107 ≔ "10000000") ∷ [])
    ∷ ((60 ≔ "7722222222") ∷ (101 ≔ "24") ∷ [])
    ∷ []
    )
    ≡ accepted "A" ∷ accepted "A" ∷ accepted "A" ∷ accepted "A" ∷ accepted "A" ∷ accepted "A" ∷ broken 60 8 ∷ broken 61 9 ∷ broken 60 23 ∷ broken 108 25 ∷ []
unfolding answer was rules_before checked_by tests_by
beforehand = refl
