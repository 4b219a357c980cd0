-- One order from its messages to the answer, of the definitions that the contracts cite: document 01's "status 04, count 97", with all
-- fifteen fields posted, seven of them blank, and field 60 corrected by the client's revision 258.
use mathlib.Core.Path.{◌≡◌, refl, ap, ◌∙◌}
use mathlib.Core.Bool.{true}
use mathlib.Core.List.{List, [], ◌∷◌, ◌++◌}
use Prim.Native.Nat.{ℕ}
use lib.Count.{ones}
use lib.ListN.{replicate}
use Rattle.texts.specs.Quoted.{bytes}
use Rattle.texts.specs.Answers.{success}
use Rattle.sheets.specs.Sheet.{slots, cell}
use Rattle.rules.specs.Verdicts.{checked}
use Rattle.drafts.specs.Revision.{client, adviser, ◌by◌}
use Rattle.drafts.specs.Message.{message_of}
use Rattle.drafts.specs.Draft.{draft_formed, draft_sheet}
use Rattle.drafts.specs.History.{posted_all}
use Rattle.sheets.specs.Dates.{dates_fit, program_dates}
use Rattle.fillings.specs.Fillings as of
use Rattle.fillings.specs.Filled as set
use Rattle.fillings.specs.Filled.{tally}
use Rattle.fillings.proofs.Counting.{filled-set}
use Rattle.orders.specs.Fillings.{list_of, to_fill, first_filling, set_of}
use Rattle.orders.specs.Complete.{budget_payment, completing, completed}
use Rattle.orders.proofs.Counts.{sheet, foreign, later}
use Rattle.orders.proofs.Whole.{look_answer, look_sheet, answer-is, sheet-is}
use Rattle.rules.specs.Working.Computing.{rules_computing}
use Rattle.drafts.specs.Working.Computing.{drafts_computing}

order : List (List ℕ)
order =
    message_of 1 14 (1 by adviser) (bytes "004525987")
    ∷ message_of 1 15 (1 by adviser) (bytes "40102810845370000004")
    ∷ message_of 1 17 (1 by adviser) (bytes "03100643000000014800")
    ∷ message_of 1 22 (1 by adviser) (bytes "")
    ∷ message_of 1 60 (1 by adviser) (bytes "7701569743")
    ∷ message_of 1 61 (1 by adviser) (bytes "6730054024")
    ∷ message_of 1 101 (1 by adviser) (bytes "")
    ∷ message_of 1 102 (1 by adviser) (bytes "0")
    ∷ message_of 1 103 (1 by adviser) (bytes "772801001")
    ∷ message_of 1 104 (1 by adviser) (bytes "18201061201010000510")
    ∷ message_of 1 105 (1 by adviser) (bytes "")
    ∷ message_of 1 106 (1 by adviser) (bytes "")
    ∷ message_of 1 107 (1 by adviser) (bytes "")
    ∷ message_of 1 108 (1 by adviser) (bytes "")
    ∷ message_of 1 109 (1 by adviser) (bytes "")
    ∷ message_of 2 60 (258 by client) (bytes "0")
    ∷ []

zeros : ℕ → List ℕ
zeros n = replicate n 0

-- the draft, byte for byte: "revision (4, big-endian)", the party, "text length (1), text padded with zero bytes to 25"
draft : List ℕ
draft =
    (0 ∷ 0 ∷ 0 ∷ 1 ∷ 2 ∷ 9 ∷ bytes "004525987") ++ zeros 16
    ++ (0 ∷ 0 ∷ 0 ∷ 1 ∷ 2 ∷ 20 ∷ bytes "40102810845370000004") ++ zeros 5
    ++ (0 ∷ 0 ∷ 0 ∷ 1 ∷ 2 ∷ 20 ∷ bytes "03100643000000014800") ++ zeros 5
    ++ (0 ∷ 0 ∷ 0 ∷ 1 ∷ 2 ∷ 0 ∷ bytes "") ++ zeros 25
    ++ (0 ∷ 0 ∷ 1 ∷ 2 ∷ 1 ∷ 1 ∷ bytes "0") ++ zeros 24
    ++ (0 ∷ 0 ∷ 0 ∷ 1 ∷ 2 ∷ 10 ∷ bytes "6730054024") ++ zeros 15
    ++ (0 ∷ 0 ∷ 0 ∷ 1 ∷ 2 ∷ 0 ∷ bytes "") ++ zeros 25
    ++ (0 ∷ 0 ∷ 0 ∷ 1 ∷ 2 ∷ 1 ∷ bytes "0") ++ zeros 24
    ++ (0 ∷ 0 ∷ 0 ∷ 1 ∷ 2 ∷ 9 ∷ bytes "772801001") ++ zeros 16
    ++ (0 ∷ 0 ∷ 0 ∷ 1 ∷ 2 ∷ 20 ∷ bytes "18201061201010000510") ++ zeros 5
    ++ (0 ∷ 0 ∷ 0 ∷ 1 ∷ 2 ∷ 0 ∷ bytes "") ++ zeros 25
    ++ (0 ∷ 0 ∷ 0 ∷ 1 ∷ 2 ∷ 0 ∷ bytes "") ++ zeros 25
    ++ (0 ∷ 0 ∷ 0 ∷ 1 ∷ 2 ∷ 0 ∷ bytes "") ++ zeros 25
    ++ (0 ∷ 0 ∷ 0 ∷ 1 ∷ 2 ∷ 0 ∷ bytes "") ++ zeros 25
    ++ (0 ∷ 0 ∷ 0 ∷ 1 ∷ 2 ∷ 0 ∷ bytes "") ++ zeros 25

-- its sheet, and the filling: "text length, text padded to 25"
blanks : List ℕ
blanks =
    (9 ∷ bytes "004525987") ++ zeros 16
    ++ (20 ∷ bytes "40102810845370000004") ++ zeros 5
    ++ (20 ∷ bytes "03100643000000014800") ++ zeros 5
    ++ (0 ∷ bytes "") ++ zeros 25
    ++ (1 ∷ bytes "0") ++ zeros 24
    ++ (10 ∷ bytes "6730054024") ++ zeros 15
    ++ (0 ∷ bytes "") ++ zeros 25
    ++ (1 ∷ bytes "0") ++ zeros 24
    ++ (9 ∷ bytes "772801001") ++ zeros 16
    ++ (20 ∷ bytes "18201061201010000510") ++ zeros 5
    ++ (0 ∷ bytes "") ++ zeros 25
    ++ (0 ∷ bytes "") ++ zeros 25
    ++ (0 ∷ bytes "") ++ zeros 25
    ++ (0 ∷ bytes "") ++ zeros 25
    ++ (0 ∷ bytes "") ++ zeros 25

filling : List ℕ
filling =
    (9 ∷ bytes "004525987") ++ zeros 16
    ++ (20 ∷ bytes "40102810845370000004") ++ zeros 5
    ++ (20 ∷ bytes "03100643000000014800") ++ zeros 5
    ++ (1 ∷ bytes "0") ++ zeros 24
    ++ (1 ∷ bytes "0") ++ zeros 24
    ++ (10 ∷ bytes "6730054024") ++ zeros 15
    ++ (2 ∷ bytes "04") ++ zeros 23
    ++ (1 ∷ bytes "0") ++ zeros 24
    ++ (9 ∷ bytes "772801001") ++ zeros 16
    ++ (20 ∷ bytes "18201061201010000510") ++ zeros 5
    ++ (1 ∷ bytes "0") ++ zeros 24
    ++ (1 ∷ bytes "0") ++ zeros 24
    ++ (1 ∷ bytes "0") ++ zeros 24
    ++ (1 ∷ bytes "0") ++ zeros 24
    ++ (1 ∷ bytes "0") ++ zeros 24

-- a buffer to complete into, whatever it held
buffer : List ℕ
buffer = replicate 390 9

computed :
    (posted_all order ≡ draft)
    × (draft_formed draft ≡ true)
    × (draft_sheet draft ≡ blanks)
    × (blanks ≡ foreign)
    × (budget_payment program_dates foreign ≡ true)
    × (set_of program_dates foreign ≡ 31816)
    × (tally (to_fill program_dates foreign) slots ≡ 7)
    × (checked program_dates filling ≡ success (bytes "A"))
    × (dates_fit program_dates ≡ true)
unfolding order zeros draft blanks filling foreign sheet posted_all list_of of.to_fill set.set_of budget_payment rules_computing drafts_computing
computed = (refl, refl, refl, refl, refl, refl, refl, refl, refl)

-- the same messages from the last to the first, the client's correction ahead of what it corrects
backwards : List (List ℕ) → List (List ℕ) → List (List ℕ)
backwards [] ns = ns
backwards (m ∷ ms) ns = backwards ms (m ∷ ns)

rearranged : posted_all (backwards order []) ≡ draft
unfolding order backwards zeros draft posted_all drafts_computing
rearranged = refl

-- the draft that the messages leave is a budget payment, and completing it fills 22, 101 and 105 to 109
left : draft_sheet (posted_all order) ≡ foreign
left = ap draft_sheet computed.0 ∙ computed.2 ∙ computed.3

set-ones : ones (set_of program_dates foreign) ≡ 7
set-ones = (filled-set (list_of program_dates) foreign).ones ∙ computed.6

answered : (completing program_dates (posted_all order) buffer ≡ success (97 ∷ 31816 ∷ 7 ∷ [])) × (completed program_dates (posted_all order) buffer ≡ filling)
unfolding buffer filling zeros sheet cell
answered =
    let f = ap draft_formed computed.0 ∙ computed.1 in
    let p = ap (budget_payment program_dates) left ∙ computed.4 in (
      answer-is program_dates (posted_all order) buffer f refl computed.8 p
          ∙ ap (λ (s : List ℕ). look_answer program_dates s (first_filling program_dates s)) left
          ∙ ap (look_answer program_dates foreign) later
          ∙ (λ i. success (97 ∷ computed.5 i ∷ set-ones i ∷ [])),
      sheet-is program_dates (posted_all order) buffer f refl computed.8 p ∙ ap (λ (s : List ℕ). look_sheet buffer (first_filling program_dates s)) left ∙ ap (look_sheet buffer) later,
    )
