-- R-2: letters in a KPP. What was answered before, and the answers that change, with their neighbours, shown true of the definitions by one
-- computation each.
use Rattle.std.specs.Prelude.{◌≡◌, refl, List, [], ◌∷◌, ◌++◌, map}
use Prim.Native.String.{String}
use Rattle.texts.specs.Answers.{Answer}
use Rattle.rules.specs.Rules.{order}
use Rattle.sheets.specs.Dates.{program_dates}
use Rattle.rules.specs.Requests.Before.{tests_by, checked_by, broken}
use Rattle.rules.specs.Requests.R2.{rules_before}
use Rattle.rules.specs.Tables.Examples.{Change, ◌≔◌, accepted, sheet_with, answer, Right, varied}

-- what was accepted before and what was not, so that the statement speaks of something
was : List Change → Answer
was cs = checked_by rules_before order program_dates (sheet_with cs)

beforehand :
    map was (
    []
    ∷ ((102 ≔ "0") ∷ [])
    ∷ ((102 ≔ "010000000") ∷ (103 ≔ "999999999") ∷ [])
    ∷ ((102 ≔ "7703AZ001") ∷ [])
    ∷ ((103 ≔ "7703A1001") ∷ [])
    ∷ ((102 ≔ "003010010") ∷ [])
    ∷ ((101 ≔ "02") ∷ (102 ≔ "7703AZ001") ∷ [])
    ∷ ((15 ≔ "") ∷ (101 ≔ "") ∷ (102 ≔ "7703AZ001") ∷ [])
    ∷ []
    )
    ≡ accepted "A" ∷ accepted "A" ∷ accepted "A" ∷ broken 102 11 ∷ broken 103 12 ∷ broken 102 11 ∷ broken 101 10 ∷ accepted "O" ∷ []
unfolding answer was rules_before checked_by tests_by
beforehand = refl

-- ---- the table: S with each text of a line in 102, and in 103

kept : String
kept = "7703AZ001 7703A1001 77030Z001 0103AA001 770300001 7703ZZ999"

-- ""A" to "Z" there": each letter at place 5, and at place 6
fifth : String
fifth =
    "7703A1001 7703B1001 7703C1001 7703D1001 7703E1001 7703F1001 7703G1001 7703H1001 7703I1001 7703J1001 7703K1001 7703L1001 7703M1001 7703N1001 7703O1001 7703P1001 7703Q1001 7703R1001 7703S1001 7703T1001 7703U1001 7703V1001 7703W1001 7703X1001 7703Y1001 7703Z1001"

sixth : String
sixth =
    "77031A001 77031B001 77031C001 77031D001 77031E001 77031F001 77031G001 77031H001 77031I001 77031J001 77031K001 77031L001 77031M001 77031N001 77031O001 77031P001 77031Q001 77031R001 77031S001 77031T001 77031U001 77031V001 77031W001 77031X001 77031Y001 77031Z001"

refused : String
refused = "0003AA001 0003A0001 770A01001 770301A01 7703az001 7703@[001 7703:@001 7703/0001 7703[0001 77030`001 00AA01001 7703AA01 7703AA0011 7703ББ001 7703А0001 77030Я001"

table : List (List Change × Answer)
table =
    map (λ (d : List Change). (d, accepted "A")) (varied [] 102 kept ++ varied [] 103 kept)
    ++ map (λ (d : List Change). (d, accepted "A")) (varied [] 102 fifth ++ varied [] 102 sixth)
    ++ map (λ (d : List Change). (d, accepted "A")) (varied [] 103 fifth ++ varied [] 103 sixth)
    ++ (map (λ (d : List Change). (d, broken 102 11)) (varied [] 102 refused) ++ map (λ (d : List Change). (d, broken 103 12)) (varied [] 103 refused))
    -- "0" in 102 alone; rule 27 asks only whether 102 is "0"
    ++ (((102 ≔ "0") ∷ [], accepted "A")
    ∷ ((103 ≔ "0") ∷ [], broken 103 12)
    ∷ ((101 ≔ "17") ∷ (60 ≔ "781023456779") ∷ (107 ≔ "10000000") ∷ (102 ≔ "7703AZ001") ∷ [], broken 102 27)
    ∷ ((101 ≔ "08") ∷ (102 ≔ "7703AZ001") ∷ [], accepted "A")
    ∷ ((101 ≔ "08") ∷ (60 ≔ "12345") ∷ (102 ≔ "7703AZ001") ∷ [], accepted "A")
    ∷ [])

changed : Right table
unfolding answer table varied kept fifth sixth refused
changed = refl
