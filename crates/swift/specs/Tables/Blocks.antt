-- A table of answers of writing and reading, its blocks joined from quoted lines, shown true of the definitions by one computation each.
use Rattle.std.specs.Prelude.{◌≡◌, refl, List, [], ◌∷◌, ◌++◌, map, ℕ, take, set, replicate}
use Prim.Native.String.{String}
use Rattle.texts.specs.Quoted.{Text, bytes}
use Rattle.texts.specs.Answers.{Answer, success, refusal}
use Rattle.sheets.specs.Sheet.{cells}
use Rattle.sheets.specs.declared.dates.Dates.{Dates}
use Rattle.rules.specs.Requests.Before.{broken}
use Rattle.rules.specs.Tables.Examples.{Change, ◌≔◌, sheet_with as changed_sheet, answer}
use Rattle.sheets.specs.Tables.DatesTable.{given}
use Rattle.swift.specs.Lines.{seven_in, lines_of, fits_in, fits, parts_of, taken}
use Rattle.swift.specs.Promises.{read_tests, reading_lines, sheet_read, line_tests, writing_lines, lines_into}

unfoldable swift_computing : Unit {0}
unfolding answer seven_in lines_of fits_in fits parts_of taken read_tests reading_lines sheet_read line_tests writing_lines lines_into
swift_computing = tt

-- ---- writing: the date, differences from S, the buffer's length

wrote : Dates × (List Change × ℕ) → Answer
wrote (D, (cs, n)) = writing_lines D (changed_sheet cs) (replicate n 0)

today : Dates
today = given 20240101

to03212 : Change
to03212 = 17 ≔ "03212643000000014800"

class_b : List Change
class_b = (14 ≔ "044525000") ∷ (15 ≔ "") ∷ (17 ≔ "40503810000004000000") ∷ []

writings : List ((Dates × (List Change × ℕ)) × Answer)
writings =
    ((today, ([], 113)), success (113 ∷ []))
    ∷ ((today, ([], 200)), success (113 ∷ []))
    ∷ ((today, ([], 112)), refusal 7 [])
    ∷ ((today, (to03212 ∷ (101 ≔ "08") ∷ (22 ≔ "1234") ∷ [], 200)), success (116 ∷ []))
    ∷ ((today, (to03212 ∷ (101 ≔ "08") ∷ (22 ≔ "11111111111111111111") ∷ [], 200)), success (132 ∷ []))
    ∷ ((today, (to03212 ∷ (101 ≔ "08") ∷ (22 ≔ "1111111111111111111111111") ∷ [], 137)), success (137 ∷ []))
    ∷ ((today, ((61 ≔ "0") ∷ [], 0)), broken 61 9)
    ∷ ((today, ((101 ≔ "31") ∷ [], 0)), broken 17 20)
    ∷ ((today, ((15 ≔ "") ∷ [], 0)), broken 101 4)
    ∷ ((today, (class_b, 0)), refusal 11 [])
    ∷ ((today, ((15 ≔ "") ∷ (101 ≔ "") ∷ [], 0)), refusal 11 [])
    ∷ ((given 20230924, ([], 0)), refusal 12 [])
    ∷ ((given 20230931, ((61 ≔ "0") ∷ [], 0)), refusal 12 [])
    ∷ ((given 20231231, ((101 ≔ "02") ∷ [], 113)), success (113 ∷ []))
    ∷ []

-- a sheet that is malformed, before 12
unformed : map (λ (D : Dates). writing_lines D (26 ∷ []) []) (today ∷ given 20230924 ∷ []) ≡ refusal 1 [] ∷ refusal 1 [] ∷ []
unfolding swift_computing today
unformed = refl

written : map (λ (e : (Dates × (List Change × ℕ)) × Answer). wrote e.0) writings ≡ map (λ (e : (Dates × (List Change × ℕ)) × Answer). e.1) writings
unfolding swift_computing wrote today to03212 class_b writings
written = refl

-- ---- reading

-- lines with some bytes behind each
block_of : List ℕ → List String → Text
block_of f [] = []
block_of f (l ∷ ls) = bytes l ++ f ++ block_of f ls

feed : List ℕ
feed = 10 ∷ []

lines_s : List String
lines_s = ":26T:S01" ∷ ":57D://RU004525987.40102810845370000004" ∷ ":59:/03100643000000014800" ∷ "INN6730054024.KPP772801001" ∷ ":72:/UIP/0" ∷ []

-- S's block, and with another line k
B : Text
B = block_of feed lines_s

line : ℕ → String → Text
line k l = block_of feed (set lines_s k l)

-- what writing S leaves in 115 bytes, and what reading its block leaves in 390: seven texts, in slots 0 to 3, 5, 6 and 8
leaves-S : lines_into (given 20240101) (changed_sheet []) (replicate 115 7) ≡ B ++ (7 ∷ 7 ∷ [])
unfolding swift_computing block_of feed lines_s B
leaves-S = refl

seven-S : sheet_read B (replicate 390 7) ≡ cells (bytes "004525987" ∷ bytes "40102810845370000004" ∷ bytes "03100643000000014800" ∷ bytes "0" ∷ [] ∷ bytes "6730054024" ∷ bytes "01" ∷ [] ∷ bytes "772801001" ∷ [] ∷ [] ∷ [] ∷ [] ∷ [] ∷ [] ∷ [])
unfolding swift_computing block_of feed lines_s B
seven-S = refl

reads : Text × ℕ → Answer
reads (b, n) = reading_lines b (replicate n 0)

no : Answer
no = refusal 11 []

yes : Answer
yes = success []

readings : List ((Text × ℕ) × Answer)
readings =
    ((B, 390), yes)
    ∷ ((line 0 ":26T:S31", 390), yes)
    ∷ ((line 0 ":26T:S02", 390), yes)
    ∷ ((line 3 "INN6730054024.KPP7728AB001", 390), yes)
    ∷ ((line 2 ":59:/03212643000000014800", 390), yes)
    ∷ ((block_of feed (set (set lines_s 2 ":59:/03212643000000014800") 4 ":72:/UIP/1234"), 390), yes)
    ∷ ((take 112 B, 390), no)
    ∷ ((B ++ (10 ∷ []), 390), no)
    ∷ ((take 112 B ++ (13 ∷ []), 390), no)
    ∷ ((block_of (13 ∷ 10 ∷ []) lines_s, 390), no)
    ∷ ((line 0 ":26T:S09", 390), no)
    ∷ ((line 0 ":26T:S1", 390), no)
    ∷ ((line 0 ":26T:s01", 390), no)
    ∷ ((line 1 ":57D://RU004525987.40103810845370000004", 390), no)
    ∷ ((line 2 ":59:/03100810000000014800", 390), no)
    ∷ ((line 2 ":59:/03254643000000014800", 390), no)
    ∷ ((line 4 ":72:/UIP/", 390), no)
    ∷ ((line 4 ":72:/UIP/1234", 390), no)
    ∷ ((line 4 ":72:/UIP/00000000000000000000", 390), no)
    ∷ ((line 3 "INN6730054025.KPP772801001", 390), no)
    ∷ ((line 3 "INN6730054024.KPP0", 390), no)
    ∷ (([], 390), no)
    ∷ (([], 391), refusal 7 [])
    ∷ ((B, 389), refusal 7 [])
    ∷ []

read : map (λ (e : (Text × ℕ) × Answer). reads e.0) readings ≡ map (λ (e : (Text × ℕ) × Answer). e.1) readings
unfolding swift_computing reads block_of feed lines_s B line no yes readings
read = refl
