-- A table of answers of writing and reading, in literal bytes, shown true of the definitions by one computation each. No definition of the promises builds
-- its rows.
use Rattle.std.specs.Prelude.{◌≡◌, refl, List, [], ◌∷◌, ◌++◌, map, ℕ, take, set, replicate}
use Rattle.texts.specs.Quoted.{Text}
use Rattle.texts.specs.Answers.{Answer, success, refusal}
use Rattle.sheets.specs.declared.dates.Dates.{Dates}
use Rattle.rules.specs.Tables.Examples.{answer}
use Rattle.sheets.specs.Tables.DatesTable.{given}
use Rattle.swift.specs.Lines.{seven_in, lines_of, fits_in, fits, parts_of, taken}
use Rattle.swift.specs.Promises.{read_tests, reading_lines, sheet_read, line_tests, writing_lines, lines_into}

unfoldable swift_computing : Unit {0}
unfolding answer seven_in lines_of fits_in fits parts_of taken read_tests reading_lines sheet_read line_tests writing_lines lines_into
swift_computing = tt

-- ---- rows: lines of bytes, one behind another

-- lines with some bytes behind each
joined : List ℕ → List Text → Text
joined f [] = []
joined f (l ∷ ls) = l ++ f ++ joined f ls

-- with another line at each of some places
abbrev Changes : Type 0
Changes = List (ℕ × Text)

changed : List Text → Changes → List Text
changed ls [] = ls
changed ls (c ∷ cs) = changed (set ls c.0 c.1) cs

-- ---- writing: the date, S with other slots, the buffer's length

-- S's 390 bytes, a slot a line
slots_s : List Text
slots_s =
    (9 ∷ 48 ∷ 48 ∷ 52 ∷ 53 ∷ 50 ∷ 53 ∷ 57 ∷ 56 ∷ 55 ∷ 0 ∷ 0 ∷ 0 ∷ 0 ∷ 0 ∷ 0 ∷ 0 ∷ 0 ∷ 0 ∷ 0 ∷ 0 ∷ 0 ∷ 0 ∷ 0 ∷ 0 ∷ 0 ∷ [])
    ∷ (20 ∷ 52 ∷ 48 ∷ 49 ∷ 48 ∷ 50 ∷ 56 ∷ 49 ∷ 48 ∷ 56 ∷ 52 ∷ 53 ∷ 51 ∷ 55 ∷ 48 ∷ 48 ∷ 48 ∷ 48 ∷ 48 ∷ 48 ∷ 52 ∷ 0 ∷ 0 ∷ 0 ∷ 0 ∷ 0 ∷ [])
    ∷ (20 ∷ 48 ∷ 51 ∷ 49 ∷ 48 ∷ 48 ∷ 54 ∷ 52 ∷ 51 ∷ 48 ∷ 48 ∷ 48 ∷ 48 ∷ 48 ∷ 48 ∷ 48 ∷ 49 ∷ 52 ∷ 56 ∷ 48 ∷ 48 ∷ 0 ∷ 0 ∷ 0 ∷ 0 ∷ 0 ∷ [])
    ∷ (1 ∷ 48 ∷ 0 ∷ 0 ∷ 0 ∷ 0 ∷ 0 ∷ 0 ∷ 0 ∷ 0 ∷ 0 ∷ 0 ∷ 0 ∷ 0 ∷ 0 ∷ 0 ∷ 0 ∷ 0 ∷ 0 ∷ 0 ∷ 0 ∷ 0 ∷ 0 ∷ 0 ∷ 0 ∷ 0 ∷ [])
    ∷ (10 ∷ 55 ∷ 55 ∷ 48 ∷ 49 ∷ 53 ∷ 54 ∷ 57 ∷ 55 ∷ 52 ∷ 51 ∷ 0 ∷ 0 ∷ 0 ∷ 0 ∷ 0 ∷ 0 ∷ 0 ∷ 0 ∷ 0 ∷ 0 ∷ 0 ∷ 0 ∷ 0 ∷ 0 ∷ 0 ∷ [])
    ∷ (10 ∷ 54 ∷ 55 ∷ 51 ∷ 48 ∷ 48 ∷ 53 ∷ 52 ∷ 48 ∷ 50 ∷ 52 ∷ 0 ∷ 0 ∷ 0 ∷ 0 ∷ 0 ∷ 0 ∷ 0 ∷ 0 ∷ 0 ∷ 0 ∷ 0 ∷ 0 ∷ 0 ∷ 0 ∷ 0 ∷ [])
    ∷ (2 ∷ 48 ∷ 49 ∷ 0 ∷ 0 ∷ 0 ∷ 0 ∷ 0 ∷ 0 ∷ 0 ∷ 0 ∷ 0 ∷ 0 ∷ 0 ∷ 0 ∷ 0 ∷ 0 ∷ 0 ∷ 0 ∷ 0 ∷ 0 ∷ 0 ∷ 0 ∷ 0 ∷ 0 ∷ 0 ∷ [])
    ∷ (9 ∷ 55 ∷ 55 ∷ 48 ∷ 51 ∷ 48 ∷ 49 ∷ 48 ∷ 48 ∷ 49 ∷ 0 ∷ 0 ∷ 0 ∷ 0 ∷ 0 ∷ 0 ∷ 0 ∷ 0 ∷ 0 ∷ 0 ∷ 0 ∷ 0 ∷ 0 ∷ 0 ∷ 0 ∷ 0 ∷ [])
    ∷ (9 ∷ 55 ∷ 55 ∷ 50 ∷ 56 ∷ 48 ∷ 49 ∷ 48 ∷ 48 ∷ 49 ∷ 0 ∷ 0 ∷ 0 ∷ 0 ∷ 0 ∷ 0 ∷ 0 ∷ 0 ∷ 0 ∷ 0 ∷ 0 ∷ 0 ∷ 0 ∷ 0 ∷ 0 ∷ 0 ∷ [])
    ∷ (20 ∷ 49 ∷ 56 ∷ 50 ∷ 48 ∷ 49 ∷ 48 ∷ 54 ∷ 49 ∷ 50 ∷ 48 ∷ 49 ∷ 48 ∷ 49 ∷ 48 ∷ 48 ∷ 48 ∷ 48 ∷ 53 ∷ 49 ∷ 48 ∷ 0 ∷ 0 ∷ 0 ∷ 0 ∷ 0 ∷ [])
    ∷ (1 ∷ 48 ∷ 0 ∷ 0 ∷ 0 ∷ 0 ∷ 0 ∷ 0 ∷ 0 ∷ 0 ∷ 0 ∷ 0 ∷ 0 ∷ 0 ∷ 0 ∷ 0 ∷ 0 ∷ 0 ∷ 0 ∷ 0 ∷ 0 ∷ 0 ∷ 0 ∷ 0 ∷ 0 ∷ 0 ∷ [])
    ∷ (1 ∷ 48 ∷ 0 ∷ 0 ∷ 0 ∷ 0 ∷ 0 ∷ 0 ∷ 0 ∷ 0 ∷ 0 ∷ 0 ∷ 0 ∷ 0 ∷ 0 ∷ 0 ∷ 0 ∷ 0 ∷ 0 ∷ 0 ∷ 0 ∷ 0 ∷ 0 ∷ 0 ∷ 0 ∷ 0 ∷ [])
    ∷ (1 ∷ 48 ∷ 0 ∷ 0 ∷ 0 ∷ 0 ∷ 0 ∷ 0 ∷ 0 ∷ 0 ∷ 0 ∷ 0 ∷ 0 ∷ 0 ∷ 0 ∷ 0 ∷ 0 ∷ 0 ∷ 0 ∷ 0 ∷ 0 ∷ 0 ∷ 0 ∷ 0 ∷ 0 ∷ 0 ∷ [])
    ∷ (1 ∷ 48 ∷ 0 ∷ 0 ∷ 0 ∷ 0 ∷ 0 ∷ 0 ∷ 0 ∷ 0 ∷ 0 ∷ 0 ∷ 0 ∷ 0 ∷ 0 ∷ 0 ∷ 0 ∷ 0 ∷ 0 ∷ 0 ∷ 0 ∷ 0 ∷ 0 ∷ 0 ∷ 0 ∷ 0 ∷ [])
    ∷ (1 ∷ 48 ∷ 0 ∷ 0 ∷ 0 ∷ 0 ∷ 0 ∷ 0 ∷ 0 ∷ 0 ∷ 0 ∷ 0 ∷ 0 ∷ 0 ∷ 0 ∷ 0 ∷ 0 ∷ 0 ∷ 0 ∷ 0 ∷ 0 ∷ 0 ∷ 0 ∷ 0 ∷ 0 ∷ 0 ∷ [])
    ∷ []

sheet : Changes → List ℕ
sheet cs = joined [] (changed slots_s cs)

-- other slots than S's, each with its place

-- field 101 is 08
status08 : ℕ × Text
status08 = (6, 2 ∷ 48 ∷ 56 ∷ 0 ∷ 0 ∷ 0 ∷ 0 ∷ 0 ∷ 0 ∷ 0 ∷ 0 ∷ 0 ∷ 0 ∷ 0 ∷ 0 ∷ 0 ∷ 0 ∷ 0 ∷ 0 ∷ 0 ∷ 0 ∷ 0 ∷ 0 ∷ 0 ∷ 0 ∷ 0 ∷ [])

-- field 101 is 31
status31 : ℕ × Text
status31 = (6, 2 ∷ 51 ∷ 49 ∷ 0 ∷ 0 ∷ 0 ∷ 0 ∷ 0 ∷ 0 ∷ 0 ∷ 0 ∷ 0 ∷ 0 ∷ 0 ∷ 0 ∷ 0 ∷ 0 ∷ 0 ∷ 0 ∷ 0 ∷ 0 ∷ 0 ∷ 0 ∷ 0 ∷ 0 ∷ 0 ∷ [])

-- field 101 is 02
status02 : ℕ × Text
status02 = (6, 2 ∷ 48 ∷ 50 ∷ 0 ∷ 0 ∷ 0 ∷ 0 ∷ 0 ∷ 0 ∷ 0 ∷ 0 ∷ 0 ∷ 0 ∷ 0 ∷ 0 ∷ 0 ∷ 0 ∷ 0 ∷ 0 ∷ 0 ∷ 0 ∷ 0 ∷ 0 ∷ 0 ∷ 0 ∷ 0 ∷ [])

-- field 101 is blank
no_status : ℕ × Text
no_status = (6, 0 ∷ 0 ∷ 0 ∷ 0 ∷ 0 ∷ 0 ∷ 0 ∷ 0 ∷ 0 ∷ 0 ∷ 0 ∷ 0 ∷ 0 ∷ 0 ∷ 0 ∷ 0 ∷ 0 ∷ 0 ∷ 0 ∷ 0 ∷ 0 ∷ 0 ∷ 0 ∷ 0 ∷ 0 ∷ 0 ∷ [])

-- field 17 is 03212643000000014800
account03212 : ℕ × Text
account03212 = (2, 20 ∷ 48 ∷ 51 ∷ 50 ∷ 49 ∷ 50 ∷ 54 ∷ 52 ∷ 51 ∷ 48 ∷ 48 ∷ 48 ∷ 48 ∷ 48 ∷ 48 ∷ 48 ∷ 49 ∷ 52 ∷ 56 ∷ 48 ∷ 48 ∷ 0 ∷ 0 ∷ 0 ∷ 0 ∷ 0 ∷ [])

-- field 17 is 40503810000004000000
account_b : ℕ × Text
account_b = (2, 20 ∷ 52 ∷ 48 ∷ 53 ∷ 48 ∷ 51 ∷ 56 ∷ 49 ∷ 48 ∷ 48 ∷ 48 ∷ 48 ∷ 48 ∷ 48 ∷ 52 ∷ 48 ∷ 48 ∷ 48 ∷ 48 ∷ 48 ∷ 48 ∷ 0 ∷ 0 ∷ 0 ∷ 0 ∷ 0 ∷ [])

-- field 14 is 044525000
bik_b : ℕ × Text
bik_b = (0, 9 ∷ 48 ∷ 52 ∷ 52 ∷ 53 ∷ 50 ∷ 53 ∷ 48 ∷ 48 ∷ 48 ∷ 0 ∷ 0 ∷ 0 ∷ 0 ∷ 0 ∷ 0 ∷ 0 ∷ 0 ∷ 0 ∷ 0 ∷ 0 ∷ 0 ∷ 0 ∷ 0 ∷ 0 ∷ 0 ∷ [])

-- field 15 is blank
no_bank : ℕ × Text
no_bank = (1, 0 ∷ 0 ∷ 0 ∷ 0 ∷ 0 ∷ 0 ∷ 0 ∷ 0 ∷ 0 ∷ 0 ∷ 0 ∷ 0 ∷ 0 ∷ 0 ∷ 0 ∷ 0 ∷ 0 ∷ 0 ∷ 0 ∷ 0 ∷ 0 ∷ 0 ∷ 0 ∷ 0 ∷ 0 ∷ 0 ∷ [])

-- field 22 is 1234
code4 : ℕ × Text
code4 = (3, 4 ∷ 49 ∷ 50 ∷ 51 ∷ 52 ∷ 0 ∷ 0 ∷ 0 ∷ 0 ∷ 0 ∷ 0 ∷ 0 ∷ 0 ∷ 0 ∷ 0 ∷ 0 ∷ 0 ∷ 0 ∷ 0 ∷ 0 ∷ 0 ∷ 0 ∷ 0 ∷ 0 ∷ 0 ∷ 0 ∷ [])

-- field 22 is 11111111111111111111
code20 : ℕ × Text
code20 = (3, 20 ∷ 49 ∷ 49 ∷ 49 ∷ 49 ∷ 49 ∷ 49 ∷ 49 ∷ 49 ∷ 49 ∷ 49 ∷ 49 ∷ 49 ∷ 49 ∷ 49 ∷ 49 ∷ 49 ∷ 49 ∷ 49 ∷ 49 ∷ 49 ∷ 0 ∷ 0 ∷ 0 ∷ 0 ∷ 0 ∷ [])

-- field 22 is 1111111111111111111111111
code25 : ℕ × Text
code25 = (3, 25 ∷ 49 ∷ 49 ∷ 49 ∷ 49 ∷ 49 ∷ 49 ∷ 49 ∷ 49 ∷ 49 ∷ 49 ∷ 49 ∷ 49 ∷ 49 ∷ 49 ∷ 49 ∷ 49 ∷ 49 ∷ 49 ∷ 49 ∷ 49 ∷ 49 ∷ 49 ∷ 49 ∷ 49 ∷ 49 ∷ [])

-- field 61 is 0
payee0 : ℕ × Text
payee0 = (5, 1 ∷ 48 ∷ 0 ∷ 0 ∷ 0 ∷ 0 ∷ 0 ∷ 0 ∷ 0 ∷ 0 ∷ 0 ∷ 0 ∷ 0 ∷ 0 ∷ 0 ∷ 0 ∷ 0 ∷ 0 ∷ 0 ∷ 0 ∷ 0 ∷ 0 ∷ 0 ∷ 0 ∷ 0 ∷ 0 ∷ [])

-- field 109 is 0, with a last pad byte that is not zero
pad1 : ℕ × Text
pad1 = (14, 1 ∷ 48 ∷ 0 ∷ 0 ∷ 0 ∷ 0 ∷ 0 ∷ 0 ∷ 0 ∷ 0 ∷ 0 ∷ 0 ∷ 0 ∷ 0 ∷ 0 ∷ 0 ∷ 0 ∷ 0 ∷ 0 ∷ 0 ∷ 0 ∷ 0 ∷ 0 ∷ 0 ∷ 0 ∷ 1 ∷ [])

wrote : Dates × (Changes × ℕ) → Answer
wrote (D, (cs, n)) = writing_lines D (sheet cs) (replicate n 0)

today : Dates
today = given 20240101

broken : ℕ → ℕ → Answer
broken f r = refusal 8 (f ∷ r ∷ [])

writings : List ((Dates × (Changes × ℕ)) × Answer)
writings =
    ((today, ([], 113)), success (113 ∷ []))
    ∷ ((today, ([], 200)), success (113 ∷ []))
    ∷ ((today, ([], 112)), refusal 7 [])
    ∷ ((today, (account03212 ∷ status08 ∷ code4 ∷ [], 200)), success (116 ∷ []))
    ∷ ((today, (account03212 ∷ status08 ∷ code20 ∷ [], 200)), success (132 ∷ []))
    ∷ ((today, (account03212 ∷ status08 ∷ code25 ∷ [], 137)), success (137 ∷ []))
    ∷ ((today, (pad1 ∷ [], 0)), refusal 1 [])
    ∷ ((today, (payee0 ∷ [], 0)), broken 61 9)
    ∷ ((today, (status31 ∷ [], 0)), broken 17 20)
    ∷ ((today, (no_bank ∷ [], 0)), broken 101 4)
    ∷ ((today, (bik_b ∷ no_bank ∷ account_b ∷ [], 0)), refusal 11 [])
    ∷ ((today, (no_bank ∷ no_status ∷ [], 0)), refusal 11 [])
    ∷ ((given 20230924, ([], 0)), refusal 12 [])
    ∷ ((given 20230931, (payee0 ∷ [], 0)), refusal 12 [])
    ∷ ((given 20231231, (status02 ∷ [], 113)), success (113 ∷ []))
    ∷ []

-- to unfold this is to unfold all that the rows of writing are made of
unfoldable rows_computing : Unit {0}
unfolding joined changed slots_s sheet status08 status31 status02 no_status account03212 account_b bik_b no_bank code4 code20 code25 payee0 pad1
rows_computing = tt

-- a sheet of another size, before 12
unformed : map (λ (D : Dates). writing_lines D (26 ∷ []) []) (today ∷ given 20230924 ∷ []) ≡ refusal 1 [] ∷ refusal 1 [] ∷ []
unfolding swift_computing today
unformed = refl

written : map (λ (e : (Dates × (Changes × ℕ)) × Answer). wrote e.0) writings ≡ map (λ (e : (Dates × (Changes × ℕ)) × Answer). e.1) writings
unfolding swift_computing rows_computing wrote today broken writings
written = refl

-- ---- reading

feed : List ℕ
feed = 10 ∷ []

-- S's five lines
lines_s : List Text
lines_s =
    -- :26T:S01
    (58 ∷ 50 ∷ 54 ∷ 84 ∷ 58 ∷ 83 ∷ 48 ∷ 49 ∷ [])
    -- :57D://RU004525987.40102810845370000004
    ∷ (58 ∷ 53 ∷ 55 ∷ 68 ∷ 58 ∷ 47 ∷ 47 ∷ 82 ∷ 85 ∷ 48 ∷ 48 ∷ 52 ∷ 53 ∷ 50 ∷ 53 ∷ 57 ∷ 56 ∷ 55 ∷ 46 ∷ 52 ∷ 48 ∷ 49 ∷ 48 ∷ 50 ∷ 56 ∷ 49 ∷ 48 ∷ 56 ∷ 52 ∷ 53 ∷ 51 ∷ 55 ∷ 48 ∷ 48 ∷ 48 ∷ 48 ∷ 48 ∷ 48 ∷ 52 ∷ [])
    -- :59:/03100643000000014800
    ∷ (58 ∷ 53 ∷ 57 ∷ 58 ∷ 47 ∷ 48 ∷ 51 ∷ 49 ∷ 48 ∷ 48 ∷ 54 ∷ 52 ∷ 51 ∷ 48 ∷ 48 ∷ 48 ∷ 48 ∷ 48 ∷ 48 ∷ 48 ∷ 49 ∷ 52 ∷ 56 ∷ 48 ∷ 48 ∷ [])
    -- INN6730054024.KPP772801001
    ∷ (73 ∷ 78 ∷ 78 ∷ 54 ∷ 55 ∷ 51 ∷ 48 ∷ 48 ∷ 53 ∷ 52 ∷ 48 ∷ 50 ∷ 52 ∷ 46 ∷ 75 ∷ 80 ∷ 80 ∷ 55 ∷ 55 ∷ 50 ∷ 56 ∷ 48 ∷ 49 ∷ 48 ∷ 48 ∷ 49 ∷ [])
    -- :72:/UIP/0
    ∷ (58 ∷ 55 ∷ 50 ∷ 58 ∷ 47 ∷ 85 ∷ 73 ∷ 80 ∷ 47 ∷ 48 ∷ [])
    ∷ []

-- S's block, and with other lines
B : Text
B = joined feed lines_s

block : Changes → Text
block cs = joined feed (changed lines_s cs)

-- other lines than S's, each with its place

-- :26T:S31
s31 : ℕ × Text
s31 = (0, 58 ∷ 50 ∷ 54 ∷ 84 ∷ 58 ∷ 83 ∷ 51 ∷ 49 ∷ [])

-- :26T:S02
s02 : ℕ × Text
s02 = (0, 58 ∷ 50 ∷ 54 ∷ 84 ∷ 58 ∷ 83 ∷ 48 ∷ 50 ∷ [])

-- :26T:S09
s09 : ℕ × Text
s09 = (0, 58 ∷ 50 ∷ 54 ∷ 84 ∷ 58 ∷ 83 ∷ 48 ∷ 57 ∷ [])

-- :26T:S1
s1 : ℕ × Text
s1 = (0, 58 ∷ 50 ∷ 54 ∷ 84 ∷ 58 ∷ 83 ∷ 49 ∷ [])

-- :26T:s01
lower_s : ℕ × Text
lower_s = (0, 58 ∷ 50 ∷ 54 ∷ 84 ∷ 58 ∷ 115 ∷ 48 ∷ 49 ∷ [])

-- :57D://RU004525987.40103810845370000004
bank40103 : ℕ × Text
bank40103 = (1, 58 ∷ 53 ∷ 55 ∷ 68 ∷ 58 ∷ 47 ∷ 47 ∷ 82 ∷ 85 ∷ 48 ∷ 48 ∷ 52 ∷ 53 ∷ 50 ∷ 53 ∷ 57 ∷ 56 ∷ 55 ∷ 46 ∷ 52 ∷ 48 ∷ 49 ∷ 48 ∷ 51 ∷ 56 ∷ 49 ∷ 48 ∷ 56 ∷ 52 ∷ 53 ∷ 51 ∷ 55 ∷ 48 ∷ 48 ∷ 48 ∷ 48 ∷ 48 ∷ 48 ∷ 52 ∷ [])

-- :59:/03212643000000014800
to03212 : ℕ × Text
to03212 = (2, 58 ∷ 53 ∷ 57 ∷ 58 ∷ 47 ∷ 48 ∷ 51 ∷ 50 ∷ 49 ∷ 50 ∷ 54 ∷ 52 ∷ 51 ∷ 48 ∷ 48 ∷ 48 ∷ 48 ∷ 48 ∷ 48 ∷ 48 ∷ 49 ∷ 52 ∷ 56 ∷ 48 ∷ 48 ∷ [])

-- :59:/03100810000000014800
roubles810 : ℕ × Text
roubles810 = (2, 58 ∷ 53 ∷ 57 ∷ 58 ∷ 47 ∷ 48 ∷ 51 ∷ 49 ∷ 48 ∷ 48 ∷ 56 ∷ 49 ∷ 48 ∷ 48 ∷ 48 ∷ 48 ∷ 48 ∷ 48 ∷ 48 ∷ 48 ∷ 49 ∷ 52 ∷ 56 ∷ 48 ∷ 48 ∷ [])

-- :59:/03254643000000014800
to03254 : ℕ × Text
to03254 = (2, 58 ∷ 53 ∷ 57 ∷ 58 ∷ 47 ∷ 48 ∷ 51 ∷ 50 ∷ 53 ∷ 52 ∷ 54 ∷ 52 ∷ 51 ∷ 48 ∷ 48 ∷ 48 ∷ 48 ∷ 48 ∷ 48 ∷ 48 ∷ 49 ∷ 52 ∷ 56 ∷ 48 ∷ 48 ∷ [])

-- INN6730054024.KPP7728AB001
letters_in_kpp : ℕ × Text
letters_in_kpp = (3, 73 ∷ 78 ∷ 78 ∷ 54 ∷ 55 ∷ 51 ∷ 48 ∷ 48 ∷ 53 ∷ 52 ∷ 48 ∷ 50 ∷ 52 ∷ 46 ∷ 75 ∷ 80 ∷ 80 ∷ 55 ∷ 55 ∷ 50 ∷ 56 ∷ 65 ∷ 66 ∷ 48 ∷ 48 ∷ 49 ∷ [])

-- INN6730054025.KPP772801001
inn025 : ℕ × Text
inn025 = (3, 73 ∷ 78 ∷ 78 ∷ 54 ∷ 55 ∷ 51 ∷ 48 ∷ 48 ∷ 53 ∷ 52 ∷ 48 ∷ 50 ∷ 53 ∷ 46 ∷ 75 ∷ 80 ∷ 80 ∷ 55 ∷ 55 ∷ 50 ∷ 56 ∷ 48 ∷ 49 ∷ 48 ∷ 48 ∷ 49 ∷ [])

-- INN6730054024.KPP0
kpp0 : ℕ × Text
kpp0 = (3, 73 ∷ 78 ∷ 78 ∷ 54 ∷ 55 ∷ 51 ∷ 48 ∷ 48 ∷ 53 ∷ 52 ∷ 48 ∷ 50 ∷ 52 ∷ 46 ∷ 75 ∷ 80 ∷ 80 ∷ 48 ∷ [])

-- :72:/UIP/
uip_empty : ℕ × Text
uip_empty = (4, 58 ∷ 55 ∷ 50 ∷ 58 ∷ 47 ∷ 85 ∷ 73 ∷ 80 ∷ 47 ∷ [])

-- :72:/UIP/1234
uip1234 : ℕ × Text
uip1234 = (4, 58 ∷ 55 ∷ 50 ∷ 58 ∷ 47 ∷ 85 ∷ 73 ∷ 80 ∷ 47 ∷ 49 ∷ 50 ∷ 51 ∷ 52 ∷ [])

-- :72:/UIP/00000000000000000000
uip_zeros : ℕ × Text
uip_zeros = (4, 58 ∷ 55 ∷ 50 ∷ 58 ∷ 47 ∷ 85 ∷ 73 ∷ 80 ∷ 47 ∷ 48 ∷ 48 ∷ 48 ∷ 48 ∷ 48 ∷ 48 ∷ 48 ∷ 48 ∷ 48 ∷ 48 ∷ 48 ∷ 48 ∷ 48 ∷ 48 ∷ 48 ∷ 48 ∷ 48 ∷ 48 ∷ 48 ∷ 48 ∷ [])

-- what writing S leaves in 115 bytes
leaves-S : lines_into (given 20240101) (sheet []) (replicate 115 7) ≡ B ++ (7 ∷ 7 ∷ [])
unfolding swift_computing rows_computing feed lines_s B
leaves-S = refl

-- what reading its block leaves in 390: seven texts, in slots 0 to 3, 5, 6 and 8, all others blank
slots_read : List Text
slots_read =
    (9 ∷ 48 ∷ 48 ∷ 52 ∷ 53 ∷ 50 ∷ 53 ∷ 57 ∷ 56 ∷ 55 ∷ 0 ∷ 0 ∷ 0 ∷ 0 ∷ 0 ∷ 0 ∷ 0 ∷ 0 ∷ 0 ∷ 0 ∷ 0 ∷ 0 ∷ 0 ∷ 0 ∷ 0 ∷ 0 ∷ [])
    ∷ (20 ∷ 52 ∷ 48 ∷ 49 ∷ 48 ∷ 50 ∷ 56 ∷ 49 ∷ 48 ∷ 56 ∷ 52 ∷ 53 ∷ 51 ∷ 55 ∷ 48 ∷ 48 ∷ 48 ∷ 48 ∷ 48 ∷ 48 ∷ 52 ∷ 0 ∷ 0 ∷ 0 ∷ 0 ∷ 0 ∷ [])
    ∷ (20 ∷ 48 ∷ 51 ∷ 49 ∷ 48 ∷ 48 ∷ 54 ∷ 52 ∷ 51 ∷ 48 ∷ 48 ∷ 48 ∷ 48 ∷ 48 ∷ 48 ∷ 48 ∷ 49 ∷ 52 ∷ 56 ∷ 48 ∷ 48 ∷ 0 ∷ 0 ∷ 0 ∷ 0 ∷ 0 ∷ [])
    ∷ (1 ∷ 48 ∷ 0 ∷ 0 ∷ 0 ∷ 0 ∷ 0 ∷ 0 ∷ 0 ∷ 0 ∷ 0 ∷ 0 ∷ 0 ∷ 0 ∷ 0 ∷ 0 ∷ 0 ∷ 0 ∷ 0 ∷ 0 ∷ 0 ∷ 0 ∷ 0 ∷ 0 ∷ 0 ∷ 0 ∷ [])
    ∷ (0 ∷ 0 ∷ 0 ∷ 0 ∷ 0 ∷ 0 ∷ 0 ∷ 0 ∷ 0 ∷ 0 ∷ 0 ∷ 0 ∷ 0 ∷ 0 ∷ 0 ∷ 0 ∷ 0 ∷ 0 ∷ 0 ∷ 0 ∷ 0 ∷ 0 ∷ 0 ∷ 0 ∷ 0 ∷ 0 ∷ [])
    ∷ (10 ∷ 54 ∷ 55 ∷ 51 ∷ 48 ∷ 48 ∷ 53 ∷ 52 ∷ 48 ∷ 50 ∷ 52 ∷ 0 ∷ 0 ∷ 0 ∷ 0 ∷ 0 ∷ 0 ∷ 0 ∷ 0 ∷ 0 ∷ 0 ∷ 0 ∷ 0 ∷ 0 ∷ 0 ∷ 0 ∷ [])
    ∷ (2 ∷ 48 ∷ 49 ∷ 0 ∷ 0 ∷ 0 ∷ 0 ∷ 0 ∷ 0 ∷ 0 ∷ 0 ∷ 0 ∷ 0 ∷ 0 ∷ 0 ∷ 0 ∷ 0 ∷ 0 ∷ 0 ∷ 0 ∷ 0 ∷ 0 ∷ 0 ∷ 0 ∷ 0 ∷ 0 ∷ [])
    ∷ (0 ∷ 0 ∷ 0 ∷ 0 ∷ 0 ∷ 0 ∷ 0 ∷ 0 ∷ 0 ∷ 0 ∷ 0 ∷ 0 ∷ 0 ∷ 0 ∷ 0 ∷ 0 ∷ 0 ∷ 0 ∷ 0 ∷ 0 ∷ 0 ∷ 0 ∷ 0 ∷ 0 ∷ 0 ∷ 0 ∷ [])
    ∷ (9 ∷ 55 ∷ 55 ∷ 50 ∷ 56 ∷ 48 ∷ 49 ∷ 48 ∷ 48 ∷ 49 ∷ 0 ∷ 0 ∷ 0 ∷ 0 ∷ 0 ∷ 0 ∷ 0 ∷ 0 ∷ 0 ∷ 0 ∷ 0 ∷ 0 ∷ 0 ∷ 0 ∷ 0 ∷ 0 ∷ [])
    ∷ (0 ∷ 0 ∷ 0 ∷ 0 ∷ 0 ∷ 0 ∷ 0 ∷ 0 ∷ 0 ∷ 0 ∷ 0 ∷ 0 ∷ 0 ∷ 0 ∷ 0 ∷ 0 ∷ 0 ∷ 0 ∷ 0 ∷ 0 ∷ 0 ∷ 0 ∷ 0 ∷ 0 ∷ 0 ∷ 0 ∷ [])
    ∷ (0 ∷ 0 ∷ 0 ∷ 0 ∷ 0 ∷ 0 ∷ 0 ∷ 0 ∷ 0 ∷ 0 ∷ 0 ∷ 0 ∷ 0 ∷ 0 ∷ 0 ∷ 0 ∷ 0 ∷ 0 ∷ 0 ∷ 0 ∷ 0 ∷ 0 ∷ 0 ∷ 0 ∷ 0 ∷ 0 ∷ [])
    ∷ (0 ∷ 0 ∷ 0 ∷ 0 ∷ 0 ∷ 0 ∷ 0 ∷ 0 ∷ 0 ∷ 0 ∷ 0 ∷ 0 ∷ 0 ∷ 0 ∷ 0 ∷ 0 ∷ 0 ∷ 0 ∷ 0 ∷ 0 ∷ 0 ∷ 0 ∷ 0 ∷ 0 ∷ 0 ∷ 0 ∷ [])
    ∷ (0 ∷ 0 ∷ 0 ∷ 0 ∷ 0 ∷ 0 ∷ 0 ∷ 0 ∷ 0 ∷ 0 ∷ 0 ∷ 0 ∷ 0 ∷ 0 ∷ 0 ∷ 0 ∷ 0 ∷ 0 ∷ 0 ∷ 0 ∷ 0 ∷ 0 ∷ 0 ∷ 0 ∷ 0 ∷ 0 ∷ [])
    ∷ (0 ∷ 0 ∷ 0 ∷ 0 ∷ 0 ∷ 0 ∷ 0 ∷ 0 ∷ 0 ∷ 0 ∷ 0 ∷ 0 ∷ 0 ∷ 0 ∷ 0 ∷ 0 ∷ 0 ∷ 0 ∷ 0 ∷ 0 ∷ 0 ∷ 0 ∷ 0 ∷ 0 ∷ 0 ∷ 0 ∷ [])
    ∷ (0 ∷ 0 ∷ 0 ∷ 0 ∷ 0 ∷ 0 ∷ 0 ∷ 0 ∷ 0 ∷ 0 ∷ 0 ∷ 0 ∷ 0 ∷ 0 ∷ 0 ∷ 0 ∷ 0 ∷ 0 ∷ 0 ∷ 0 ∷ 0 ∷ 0 ∷ 0 ∷ 0 ∷ 0 ∷ 0 ∷ [])
    ∷ []

seven-S : sheet_read B (replicate 390 7) ≡ joined [] slots_read
unfolding swift_computing joined feed lines_s B slots_read
seven-S = refl

reads : Text × ℕ → Answer
reads (b, n) = reading_lines b (replicate n 0)

no : Answer
no = refusal 11 []

yes : Answer
yes = success []

readings : List ((Text × ℕ) × Answer)
readings =
    ((B, 390), yes)
    ∷ ((block (s31 ∷ []), 390), yes)
    ∷ ((block (s02 ∷ []), 390), yes)
    ∷ ((block (letters_in_kpp ∷ []), 390), yes)
    ∷ ((block (to03212 ∷ []), 390), yes)
    ∷ ((block (to03212 ∷ uip1234 ∷ []), 390), yes)
    ∷ ((take 112 B, 390), no)
    ∷ ((B ++ (10 ∷ []), 390), no)
    ∷ ((take 112 B ++ (13 ∷ []), 390), no)
    ∷ ((joined (13 ∷ 10 ∷ []) lines_s, 390), no)
    ∷ ((block (s09 ∷ []), 390), no)
    ∷ ((block (s1 ∷ []), 390), no)
    ∷ ((block (lower_s ∷ []), 390), no)
    ∷ ((block (bank40103 ∷ []), 390), no)
    ∷ ((block (roubles810 ∷ []), 390), no)
    ∷ ((block (to03254 ∷ []), 390), no)
    ∷ ((block (uip_empty ∷ []), 390), no)
    ∷ ((block (uip1234 ∷ []), 390), no)
    ∷ ((block (uip_zeros ∷ []), 390), no)
    ∷ ((block (inn025 ∷ []), 390), no)
    ∷ ((block (kpp0 ∷ []), 390), no)
    ∷ (([], 390), no)
    ∷ (([], 391), refusal 7 [])
    ∷ ((B, 389), refusal 7 [])
    ∷ []

read : map (λ (e : (Text × ℕ) × Answer). reads e.0) readings ≡ map (λ (e : (Text × ℕ) × Answer). e.1) readings
unfolding swift_computing reads joined changed feed lines_s B block s31 s02 s09 s1 lower_s bank40103 to03212 roubles810 to03254 letters_in_kpp inn025 kpp0 uip_empty uip1234 uip_zeros no yes readings
read = refl
