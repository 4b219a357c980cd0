-- Document 01's completion examples and R-1's, of the definition: a filling's place is computed.
use mathlib.Core.Path.{◌≡◌, refl, ap, ◌∙◌}
use mathlib.Core.Bool.{true, false}
use mathlib.Core.List.{List, [], ◌∷◌, map}
use Prim.Native.Nat.{ℕ, ◌+◌, ◌*◌}
use native.Mathlib.Omega.{arith}
use borrow.Author.Tests.{eqb-true}
use lib.Dec.{eqb}
use lib.ListN.{length, replicate}
use Prim.Native.String.{String}
use Rattle.texts.specs.Quoted.{words}
use Rattle.texts.specs.Texts.{every, same}
use Rattle.texts.proofs.Bools.{both}
use Rattle.sheets.specs.Sheet.{cell}
use Rattle.rules.specs.Rules.{first_blank, rules, order, ahead, test_of, field_of, keeps, first_not}
use Rattle.rules.specs.Requests.R4.{rules_before}
use Rattle.sheets.specs.Tables.DatesTable.{dates_of, given}
use Rattle.sheets.specs.Working.Entries.{filled_at}
use Rattle.sheets.specs.Dates.{texts_in, status_count, program_dates}
use Rattle.sheets.specs.declared.dates.Dates.{Dates}
use Rattle.fillings.specs.Fillings as of
use Rattle.fillings.specs.Fillings.{joined, most_fillings, Look, found, none, look}
use Rattle.fillings.specs.Working.Places.{places}
use Rattle.fillings.specs.Working.Parts.{map_look}
use Rattle.fillings.proofs.Looking.{none-look}
use Rattle.orders.specs.Fillings.{list_of, fillings, first_filling}
use Rattle.orders.specs.Working.Search.{passes_at, picks, first_pick}
use Rattle.orders.specs.Working.Entering.{base_of, picked_of}
use Rattle.orders.specs.Complete.{budget_payment, sheet_tests, complete_tests, completing}
use Rattle.orders.specs.Pretest.{broken_by_all, named_field}
use Rattle.texts.specs.Answers.{refusal, answer_by}
use Rattle.orders.proofs.Lists.{some-status}
use Rattle.orders.proofs.Keeping.{first-is}
use Rattle.orders.proofs.Passing.{broken-fixed}
use Rattle.orders.proofs.Ahead.{earliest, first-broken, named-field}
use Rattle.rules.specs.Working.Computing.{rules_computing}
use Rattle.drafts.specs.Draft.{fresh_draft}
use Rattle.drafts.specs.Working.Computing.{drafts_computing}

-- a sheet by its texts in slot order, parted by spaces
unfoldable pub sheet : String → List ℕ
sheet q = joined (map cell (words q))

-- S with 22, 101, 105 to 109 blank, and 60 and 102 "0"
unfoldable pub foreign : List ℕ
foreign = sheet "004525987 40102810845370000004 03100643000000014800  0 6730054024  0 772801001 18201061201010000510     "

-- the same with 17 03212643000000014800
hopeless : List ℕ
hopeless = sheet "004525987 40102810845370000004 03212643000000014800  0 6730054024  0 772801001 18201061201010000510     "

-- what the search finds; to unfold it is to unfold all that it is computed by
unfoldable picked : List ℕ → Look (List ℕ)
unfolding foreign hopeless sheet look filled_at passes_at places picks first_pick base_of picked_of rules_computing
picked s = map_look (picked_of program_dates (base_of s)) (first_pick program_dates (base_of s))

-- "status 04, count 97"
pub later : first_filling program_dates foreign ≡ found 97 (sheet "004525987 40102810845370000004 03100643000000014800 0 0 6730054024 04 0 772801001 18201061201010000510 0 0 0 0 0")
unfolding picked
later = first-is program_dates foreign refl

-- R-4: S with 101 blank and a wrong check digit in 60
abbrev wrong_digit : String
wrong_digit = "004525987 40102810845370000004 03100643000000014800 0 7722222222 6730054024  770301001 772801001 18201061201010000510 0 0 0 0 0"

-- sheets, and the first filling with its place, or the count of all
abbrev Example : Type 0
Example = String × Look String

completions : List Example
completions =
    -- "count 1": S with 22, 101, 105 to 109 blank is filled to S itself; class B, with all that can be filled blank
    (
      "004525987 40102810845370000004 03100643000000014800  7701569743 6730054024  770301001 772801001 18201061201010000510     ",
      found 1 "004525987 40102810845370000004 03100643000000014800 0 7701569743 6730054024 01 770301001 772801001 18201061201010000510 0 0 0 0 0",
    )
    ∷ ("044525000  40204810000000000000   6730054024   772801001      ", found 97 "044525000  40204810000000000000 0 0 6730054024 04 0 772801001 0 0 0 0 0 0")
    -- with 17 03222643000000014800, and 60, 102 and 104 blank too: with 01, 03 and 04 no filling keeps all rules, with 05 the first does
    ∷ (
      "004525987 40102810845370000004 03222643000000014800   6730054024   772801001      ",
      found 145 "004525987 40102810845370000004 03222643000000014800 0 0 6730054024 05 0 772801001 0 0 0 0 0 0",
    )
    -- S with status 06, 107 10000000 and 109 "00", and 106 and 108 blank: "0" does not go with "00", nor does 108 "0" with 106 "00"
    ∷ (
      "004525987 40102810845370000004 03100643000000014800 0 7701569743 6730054024 06 770301001 772801001 18201061201010000510 0  10000000  00",
      found 4 "004525987 40102810845370000004 03100643000000014800 0 7701569743 6730054024 06 770301001 772801001 18201061201010000510 0 00 10000000 00 00",
    )
    -- R-1: S with status 24, 60 and 102 "0", and 109 blank: a pension number that can't exist breaks rule 35 with both entries of 109; with
    -- one that can, the first entry keeps all rules
    ∷ ("004525987 40102810845370000004 03100643000000014800 0 0 6730054024 24 0 772801001 18201061201010000510 0 0 0 14;12345678900 ", none 2)
    ∷ (
      "004525987 40102810845370000004 03100643000000014800 0 0 6730054024 24 0 772801001 18201061201010000510 0 0 0 14;12345678964 ",
      found 1 "004525987 40102810845370000004 03100643000000014800 0 0 6730054024 24 0 772801001 18201061201010000510 0 0 0 14;12345678964 0",
    )
    -- R-4: none of the 22 statuses keeps rule 8; S with 101 blank
    ∷ (wrong_digit, none 22)
    ∷ (
      "004525987 40102810845370000004 03100643000000014800 0 7701569743 6730054024  770301001 772801001 18201061201010000510 0 0 0 0 0",
      found 1 "004525987 40102810845370000004 03100643000000014800 0 7701569743 6730054024 01 770301001 772801001 18201061201010000510 0 0 0 0 0",
    )
    ∷ []

-- each by the search through its picks
first-all : (es : List Example) → every (λ (e : Example). eqb (length (sheet e.0)) 390) es ≡ true
    → map (λ (e : Example). first_filling program_dates (sheet e.0)) es ≡ map (λ (e : Example). map_look (picked_of program_dates (base_of (sheet e.0))) (first_pick program_dates (base_of (sheet e.0)))) es
unfolding every
first-all [] h = refl
first-all (e ∷ es) h =
    let p = both (eqb (length (sheet e.0)) 390) (every (λ (x : Example). eqb (length (sheet x.0)) 390) es) h in
    λ i. first-is program_dates (sheet e.0) (eqb-true (length (sheet e.0)) 390 p.0) i ∷ first-all es p.1 i

completes : map (λ (e : Example). first_filling program_dates (sheet e.0)) completions ≡ map (λ (e : Example). map_look sheet e.1) completions
unfolding picked completions every
completes = first-all completions refl

-- R-4: by the rules before, the first status did
inn1_before : look (λ (f : List ℕ). every (λ (n : ℕ). test_of rules_before n program_dates f) order) 0 (fillings program_dates (sheet wrong_digit))
    ≡ found 1 (sheet "004525987 40102810845370000004 03100643000000014800 0 7722222222 6730054024 01 770301001 772801001 18201061201010000510 0 0 0 0 0")
unfolding picked rules_before of.fillings of.choices of.to_fill list_of
inn1_before = refl

-- which sheets are budget payments, and what stands before the search: rules 1, 2 and 3, and class O
payments : map (budget_payment program_dates) (foreign ∷ sheet "044525000  40204810000000000000   6730054024   772801001      " ∷ sheet "044525006  40204810000000000000   6730054024   772801001      " ∷ [])
    ≡ true ∷ true ∷ false ∷ []
unfolding picked budget_payment
payments = refl

before : map (λ (s : List ℕ). answer_by (sheet_tests program_dates s) []) (
    sheet "0  "
    ∷ sheet "004525987 0 "
    ∷ sheet "004525987  0"
    ∷ sheet "044525006  40204810000000000000   6730054024   772801001      "
    ∷ []
    )
    ≡ refusal 8 (14 ∷ 1 ∷ []) ∷ refusal 8 (15 ∷ 2 ∷ []) ∷ refusal 8 (17 ∷ 3 ∷ []) ∷ refusal 9 [] ∷ []
unfolding picked sheet_tests field_of first_not
before = refl

-- "10, count 1,056": 22 is filled with "0", which breaks rule 22 whatever the other entries are
never : first_filling program_dates hopeless ≡ none 1056
unfolding picked
never = first-is program_dates hopeless refl ∙ ap (map_look (picked_of program_dates (base_of hopeless))) (none-look (passes_at program_dates (base_of hopeless)) (picks program_dates (base_of hopeless)) 0 (λ q m. broken-fixed program_dates (base_of hopeless) (22 ∷ []) refl refl refl refl q))

-- "at most 22 × 12 × 2 × 2 = 1,056"; R-7: as many as the list has statuses, times 48
most : most_fillings (list_of program_dates) ≡ 1056
unfolding list_of texts_in same
most = refl

most-by : (D : Dates) → most_fillings (list_of D) ≡ status_count D * 48
unfolding list_of
most-by D = rw (some-status D) (omega arith)

-- ---- R-7: the list that the date allows

-- 02 is allowed, and stands second
second : first_filling (given 20231015) foreign ≡ found 49 (sheet "004525987 40102810845370000004 03100643000000014800 0 0 6730054024 02 0 772801001 18201061201010000510 0 0 0 0 0")
unfolding picked
second = first-is (given 20231015) foreign refl

-- S with 22, 101, 105 to 109 blank and 17 03212643000000014800
hopeless_s : List ℕ
hopeless_s = sheet "004525987 40102810845370000004 03212643000000014800  7701569743 6730054024  770301001 772801001 18201061201010000510     "

-- the count of all follows the list: neither 02 nor 32 nor 33, 32 alone, all three
hopeless_at : (D : Dates) → first_filling D hopeless_s ≡ map_look (picked_of D (base_of hopeless_s)) (none (0 + length (picks D (base_of hopeless_s))))
unfolding picked hopeless_s
hopeless_at D = first-is D hopeless_s refl ∙ ap (map_look (picked_of D (base_of hopeless_s))) (none-look (passes_at D (base_of hopeless_s)) (picks D (base_of hopeless_s)) 0 (λ q m. broken-fixed D (base_of hopeless_s) (22 ∷ []) refl refl refl refl q))

counts : map (λ (D : Dates). first_filling D hopeless_s) (given 20240101 ∷ given 20231015 ∷ given 20230930 ∷ dates_of 20240101 20240101 20240101 20240101 ∷ dates_of 20240101 20240102 20240102 20231231 ∷ [])
    ≡ none 1056 ∷ none 1056 ∷ none 1008 ∷ none 1104 ∷ none 960 ∷ []
unfolding picked hopeless_s
counts = λ i. hopeless_at (given 20240101) i ∷ hopeless_at (given 20231015) i ∷ hopeless_at (given 20230930) i ∷ hopeless_at (dates_of 20240101 20240101 20240101 20240101) i ∷ hopeless_at (dates_of 20240101 20240102 20240102 20231231) i ∷ []

-- what is tested first: 1, 7, 12, then 8, 9 and 10, of a draft that has each text with revision 1 of the adviser
abbrev no_draft : List ℕ
no_draft = []

ordinary : List ℕ
ordinary = joined (map (λ (t : List ℕ). 0 ∷ 0 ∷ 0 ∷ 1 ∷ 2 ∷ cell t) (words "044525006  40204810000000000000   6730054024   772801001      "))

tested : map (λ (e : ℕ × List ℕ × List ℕ). completing (given e.0) e.1 e.2) (
    (0, no_draft, [])
    ∷ (0, fresh_draft, [])
    ∷ (0, fresh_draft, replicate {A = ℕ} 390 0)
    ∷ (20240101, fresh_draft, replicate {A = ℕ} 390 0)
    ∷ (20230924, ordinary, replicate {A = ℕ} 390 0)
    ∷ (20230925, ordinary, replicate {A = ℕ} 390 0)
    ∷ []
    )
    ≡ refusal 1 [] ∷ refusal 7 [] ∷ refusal 12 [] ∷ refusal 8 (14 ∷ 1 ∷ []) ∷ refusal 12 [] ∷ refusal 9 [] ∷ []
unfolding picked ordinary completing complete_tests sheet_tests field_of first_not drafts_computing
tested = refl

-- ---- R-3: what the test ahead names of a sheet, by its first filling

unfoldable pub ahead1 : List ℕ → ℕ × ℕ
ahead1 s =
    let f = picked_of program_dates (base_of s) (0 ∷ 0 ∷ 0 ∷ 0 ∷ []) in
    let n = first_not (keeps program_dates f) ahead in
    (field_of rules n f, n)

pub ahead-is : (s : List ℕ) → length s ≡ 390 → (named_field program_dates s, broken_by_all program_dates s) ≡ ahead1 s
unfolding ahead1 earliest
ahead-is s size =
    let b = first-broken program_dates s size in
    let f = named-field program_dates s size ∙ ap (λ (n : ℕ). field_of rules n (picked_of program_dates (base_of s) (0 ∷ 0 ∷ 0 ∷ 0 ∷ []))) b in
    λ i. (f i, b i)

-- differences from S: the field and the rule, or 0 and 0
ahead_table : List (String × ℕ × ℕ)
ahead_table =
    -- S; 22, 101, 105 to 109 blank; 101 99; a pension number that can't exist; all filled but 61 and 103
    ("004525987 40102810845370000004 03100643000000014800 0 7701569743 6730054024 01 770301001 772801001 18201061201010000510 0 0 0 0 0", 0, 0)
    ∷ ("004525987 40102810845370000004 03100643000000014800  7701569743 6730054024  770301001 772801001 18201061201010000510     ", 0, 0)
    ∷ ("004525987 40102810845370000004 03100643000000014800 0 7701569743 6730054024 99 770301001 772801001 18201061201010000510 0 0 0 0 0", 0, 0)
    ∷ ("004525987 40102810845370000004 03100643000000014800 0 7701569743 6730054024 01 770301001 772801001 18201061201010000510 0 0 0 14;12345678900 0", 0, 0)
    -- 104 blank, or "0"; on an account that wants a code 22 blank, or "0", or not of its form
    ∷ ("004525987 40102810845370000004 03100643000000014800 0 7701569743 6730054024 01 770301001 772801001  0 0 0 0 0", 104, 28)
    ∷ ("004525987 40102810845370000004 03100643000000014800 0 7701569743 6730054024 01 770301001 772801001 0 0 0 0 0 0", 104, 28)
    ∷ ("004525987 40102810845370000004 03212643000000014800  7701569743 6730054024 01 770301001 772801001 18201061201010000510 0 0 0 0 0", 22, 22)
    ∷ ("004525987 40102810845370000004 03212643000000014800 0 7701569743 6730054024 01 770301001 772801001 18201061201010000510 0 0 0 0 0", 22, 22)
    ∷ ("004525987 40102810845370000004 03212643000000014800 0000 7701569743 6730054024 01 770301001 772801001 18201061201010000510 0 0 0 0 0", 22, 7)
    -- 61 and 103 blank
    ∷ ("004525987 40102810845370000004 03100643000000014800 0 7701569743  01 770301001 772801001 18201061201010000510 0 0 0 0 0", 61, 6)
    ∷ ("004525987 40102810845370000004 03100643000000014800 0 7701569743  01 770301001  18201061201010000510 0 0 0 0 0", 61, 6)
    ∷ ("004525987 40102810845370000004 03100643000000014800 0 7701569743 6730054024 01 770301001  18201061201010000510 0 0 0 0 0", 103, 6)
    ∷ ("004525987 40102810845370000004 03100643000000014800 0 7701569743 6730054024  770301001  18201061201010000510 0 0 0 0 0", 103, 6)
    -- one rule after another
    ∷ ("004525987 40102810845370000004 03100810000000014800 0 7701569743  01 770301001 772801001 18201061201010000510 0 0 0 0 0", 17, 5)
    ∷ ("004525987 40102810845370000004 03100643000000014800 0 7722222222 6730054024 01 770301001 772801001 18201061201010000510 0 0 0 0 0", 60, 8)
    ∷ ("004525987 40102810845370000004 03100643000000014800 0 7701569743 6730054025 01 770301001 772801001 18201061201010000510 0 0 0 0 0", 61, 9)
    ∷ ("004525987 40102810845370000004 03100643000000014800 0 7701569743 6730054024 01 1 772801001 18201061201010000510 0 0 0 0 0", 102, 11)
    ∷ ("004525987 40102810845370000004 03100643000000014800 0 7701569743 6730054024 01 770301001 0 18201061201010000510 0 0 0 0 0", 103, 12)
    ∷ ("004525987 40102810845370000004 03100643000000014800 0 7701569743 6730054024 01 770301001 772801001 1 0 0 0 0 0", 104, 13)
    ∷ ("004525987 40102810845370000004 03100643000000014800 0 7701569743 6730054024 01 770301001 772801001 18201061201010000510 1 0 0 0 0", 105, 14)
    ∷ ("004525987 40102810845370000004 03100643000000014800 0 7701569743 6730054024 01 770301001 772801001 18201061201010000510 0 0 1 0 0", 107, 16)
    -- 16 ahead of 22 and 28; none of rules that ask of 101, 106, 108 or 109
    ∷ ("004525987 40102810845370000004 03100643000000014800 0 7701569743 6730054024 01 770301001 772801001 0 0 0 1 0 0", 107, 16)
    ∷ ("004525987 40102810845370000004 03212643000000014800 0 7701569743 6730054024 01 770301001 772801001 18201061201010000510 0 0 1 0 0", 107, 16)
    ∷ ("004525987 40102810845370000004 03100643000000014800 0 7701569743 6730054024 08 0 772801001 18201061201010000510 0 0 0 0 0", 0, 0)
    ∷ ("004525987 40102810845370000004 03100643000000014800 0 7701569743 6730054024 01 770301001 772801001 18201061201010000510 0 1 0 - 1", 0, 0)
    ∷ []

named : map (λ (e : String × ℕ × ℕ). ahead1 (sheet e.0)) ahead_table ≡ map (λ (e : String × ℕ × ℕ). (e.1, e.2)) ahead_table
unfolding picked ahead1 ahead_table field_of first_not first_blank
named = refl
