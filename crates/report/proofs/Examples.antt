-- Document 01's worked example of the program, of the definition.
use mathlib.Core.Path.{◌≡◌, refl}
use mathlib.Core.List.{List, [], ◌∷◌, ◌++◌}
use Prim.Native.Nat.{ℕ, ◌≤◌}
use borrow.Author.Tests.{le-leb}
use lib.ListN.{length}
use Rattle.texts.specs.Quoted.{Text, bytes}
use Rattle.drafts.specs.Revision.{adviser, ◌by◌}
use Rattle.drafts.specs.Message.{message_of}
use Rattle.fillings.specs.Fillings.{to_fill, choices, look, fillings, first_filling}
use Rattle.fillings.specs.Filled.{set_of}
use Rattle.orders.specs.Fillings.{list_of}
use Rattle.orders.specs.Complete.{sheet_tests, complete_tests, completing, completed}
use Rattle.orders.specs.Stream.{piece_of, ends_stream, pieces, messages_of}
use Rattle.report.specs.Lines.{decimal_in, decimal, item}
use Rattle.report.specs.Report.{message_line, field_line, field_lines, end_lines, ending, report_from, report_of, reported}
use Rattle.rules.specs.Working.Computing.{rules_computing}
use Rattle.drafts.specs.Working.Computing.{drafts_computing}

-- "Input 00 0A 01 0E 00 00 00 01 30 30 34 35 (hexadecimal) prints exactly"
input : List ℕ
input = 0x00 ∷ 0x0A ∷ 0x01 ∷ 0x0E ∷ 0x00 ∷ 0x00 ∷ 0x00 ∷ 0x01 ∷ 0x30 ∷ 0x30 ∷ 0x34 ∷ 0x35 ∷ []

output : List ℕ
output = bytes "1 newer" ++ (10 ∷ []) ++ bytes "end 8 14 1" ++ (10 ∷ [])

example : report_of input ≡ output
unfolding input output sheet_tests complete_tests completing completed piece_of ends_stream pieces messages_of decimal_in decimal item message_line end_lines ending report_from report_of rules_computing drafts_computing
example = refl

-- the same of what `report` promises, in every buffer that has room
example-reported : (b : List ℕ) → 46080 ≤ length b → reported input b ≡ output
unfolding input output reported
example-reported b h = simp (le-leb 46080 (length b) h) example

-- a whole order: S from fifteen messages, the first of them once more, an older one, and one that is cut off
whole_input : List ℕ
whole_input =
    message_of 1 14 (2 by adviser) (bytes "004525987")
    ++ message_of 1 15 (2 by adviser) (bytes "40102810845370000004")
    ++ message_of 1 17 (2 by adviser) (bytes "03100643000000014800")
    ++ message_of 1 22 (2 by adviser) (bytes "0")
    ++ message_of 1 60 (2 by adviser) (bytes "7701569743")
    ++ message_of 1 61 (2 by adviser) (bytes "6730054024")
    ++ message_of 1 101 (2 by adviser) (bytes "01")
    ++ message_of 1 102 (2 by adviser) (bytes "770301001")
    ++ message_of 1 103 (2 by adviser) (bytes "772801001")
    ++ message_of 1 104 (2 by adviser) (bytes "18201061201010000510")
    ++ message_of 1 105 (2 by adviser) (bytes "0")
    ++ message_of 1 106 (2 by adviser) (bytes "0")
    ++ message_of 1 107 (2 by adviser) (bytes "0")
    ++ message_of 1 108 (2 by adviser) (bytes "0")
    ++ message_of 1 109 (2 by adviser) (bytes "0")
    ++ message_of 1 14 (2 by adviser) (bytes "004525987")
    ++ message_of 1 14 (1 by adviser) (bytes "1")
    ++ (0 ∷ 9 ∷ 1 ∷ [])

-- some lines, each ended by a line feed
feeds : List Text → List ℕ
feeds [] = []
feeds (t ∷ ts) = t ++ (10 ∷ feeds ts)

whole_output : List ℕ
whole_output =
    feeds
    (bytes "1 newer"
    ∷ bytes "2 newer"
    ∷ bytes "3 newer"
    ∷ bytes "4 newer"
    ∷ bytes "5 newer"
    ∷ bytes "6 newer"
    ∷ bytes "7 newer"
    ∷ bytes "8 newer"
    ∷ bytes "9 newer"
    ∷ bytes "10 newer"
    ∷ bytes "11 newer"
    ∷ bytes "12 newer"
    ∷ bytes "13 newer"
    ∷ bytes "14 newer"
    ∷ bytes "15 newer"
    ∷ bytes "16 same"
    ∷ bytes "17 older"
    ∷ bytes "18 2"
    ∷ bytes "end ok 1"
    ∷ bytes "14 004525987"
    ∷ bytes "15 40102810845370000004"
    ∷ bytes "17 03100643000000014800"
    ∷ bytes "22 0"
    ∷ bytes "60 7701569743"
    ∷ bytes "61 6730054024"
    ∷ bytes "101 01"
    ∷ bytes "102 770301001"
    ∷ bytes "103 772801001"
    ∷ bytes "104 18201061201010000510"
    ∷ bytes "105 0"
    ∷ bytes "106 0"
    ∷ bytes "107 0"
    ∷ bytes "108 0"
    ∷ bytes "109 0"
    ∷ [])

whole : report_of whole_input ≡ whole_output
unfolding whole_input whole_output feeds list_of to_fill choices look fillings first_filling set_of sheet_tests complete_tests completing completed piece_of ends_stream pieces messages_of decimal_in decimal item message_line field_line field_lines end_lines ending report_from report_of rules_computing drafts_computing
whole = refl
