-- Document 01's starred examples as one table, shown true of the definitions by one computation; what Pinned and R1 share with it.
use Rattle.std.specs.Prelude.{◌≡◌, refl, List, [], ◌∷◌, ◌++◌, map, ℕ, set, replicate}
use Prim.Native.String.{String}
use Rattle.texts.specs.Quoted.{Text, bytes, words}
use Rattle.texts.specs.Answers.{Answer, success}
use Rattle.sheets.specs.Sheet.{slot_of, cells}
use Rattle.sheets.specs.Dates.{program_dates}
use Rattle.rules.specs.Verdicts.{checked}
use Rattle.rules.specs.Requests.Before.{broken}
use Rattle.rules.specs.Working.Computing.{rules_computing}

infix 20 ◌≔◌
-- the text of a field
abbrev pub Change : Type 0
Change = ℕ × Text

unfoldable pub ◌≔◌ : ℕ → String → Change
f ≔ q = (f, bytes q)

-- the texts of a sheet's slots with some changed
unfoldable pub changed : List Text → List Change → List Text
changed ts [] = ts
changed ts (c ∷ cs) = changed (set ts (slot_of c.0) c.1) cs

unfoldable pub s : List Text
s =
    changed (replicate 15 [])
    ((14 ≔ "004525987")
    ∷ (15 ≔ "40102810845370000004")
    ∷ (17 ≔ "03100643000000014800")
    ∷ (22 ≔ "0")
    ∷ (60 ≔ "7701569743")
    ∷ (61 ≔ "6730054024")
    ∷ (101 ≔ "01")
    ∷ (102 ≔ "770301001")
    ∷ (103 ≔ "772801001")
    ∷ (104 ≔ "18201061201010000510")
    ∷ (105 ≔ "0") ∷ (106 ≔ "0") ∷ (107 ≔ "0") ∷ (108 ≔ "0") ∷ (109 ≔ "0")
    ∷ [])

-- "accepted", with the class
unfoldable pub accepted : String → Answer
accepted q = success (bytes q)

-- S with some differences, and what checking it answers. To unfold `answer` is to unfold all that answers are computed by.
unfoldable pub sheet_with : List Change → List ℕ
sheet_with cs = cells (changed s cs)

unfoldable pub answer : List Change → Answer
unfolding ◌≔◌ changed cells s accepted broken sheet_with rules_computing
answer cs = checked program_dates (sheet_with cs)

-- each of a table's sheets, differences from S, has its answer
abbrev pub Right : List (List Change × Answer) → Type 0
Right table = map (λ (e : List Change × Answer). answer e.0) table ≡ map (λ (e : List Change × Answer). e.1) table

-- some differences from S, and field f with each text of a quoted line in turn
unfoldable pub varied : List Change → ℕ → String → List (List Change)
varied cs f q = map (λ (t : Text). cs ++ ((f, t) ∷ [])) (words q)

-- "Differences from S", and the answer
table : List (List Change × Answer)
table =
    ([], accepted "A")
    ∷ ((102 ≔ "0") ∷ [], accepted "A")
    ∷ ((101 ≔ "08") ∷ (102 ≔ "0") ∷ [], broken 102 27)
    ∷ ((101 ≔ "02") ∷ [], broken 101 10)
    ∷ ((101 ≔ "31") ∷ [], broken 17 20)
    ∷ ((17 ≔ "03212643000000014800") ∷ (101 ≔ "31") ∷ (22 ≔ "1234") ∷ [], broken 22 21)
    ∷ ((101 ≔ "13") ∷ (60 ≔ "12345") ∷ [], broken 60 24)
    ∷ ((101 ≔ "24") ∷ (60 ≔ "0") ∷ (102 ≔ "0") ∷ (108 ≔ "14;11223344595") ∷ [], accepted "A")
    ∷ ((101 ≔ "24") ∷ (60 ≔ "0") ∷ (102 ≔ "0") ∷ (108 ≔ "0") ∷ [], broken 108 25)
    ∷ ((14 ≔ "044525000") ∷ (15 ≔ "") ∷ (17 ≔ "40503810000004000000") ∷ [], accepted "B")
    ∷ ((14 ≔ "044525000") ∷ (15 ≔ "") ∷ (17 ≔ "40503810000000000000") ∷ [], broken 101 4)
    ∷ ((101 ≔ "06") ∷ (107 ≔ "10000000") ∷ (106 ≔ "00") ∷ (108 ≔ "00") ∷ (109 ≔ "00") ∷ [], accepted "A")
    ∷ ((101 ≔ "06") ∷ (107 ≔ "10000000") ∷ (106 ≔ "00") ∷ (108 ≔ "00") ∷ (109 ≔ "0") ∷ [], broken 109 34)
    ∷ []

examples : Right table
unfolding answer table
examples = refl
