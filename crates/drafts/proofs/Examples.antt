-- Document 01's message, and messages at the boundaries of each refusal, computed.
use mathlib.Core.Path.{◌≡◌, refl}
use mathlib.Core.Bool.{Bool, true, false, cond}
use mathlib.Core.List.{List, [], ◌∷◌, ◌++◌, map}
use Prim.Native.Nat.{ℕ, zero, suc, ◌*◌}
use lib.ListN.{replicate}
use Rattle.texts.specs.Quoted.{bytes}
use Rattle.texts.specs.Answers.{success, number_of}
use Rattle.texts.specs.Buffers.{put}
use Rattle.sheets.specs.Sheet.{slots, slot_of}
use Rattle.drafts.specs.Revision.{client, adviser, ◌by◌}
use Rattle.drafts.specs.Message.{readable, reading_of, message_of, writing_of, written_of}
use Rattle.drafts.specs.Draft.{slot_bytes, rank_of, draft_formed, fresh_draft, beginning_of, posting_of, posted_to, copying_of}
use Rattle.drafts.specs.History.{names, rank_in, empty_slot, end_slot}
use Rattle.drafts.specs.Working.Computing.{drafts_computing}

-- a message of version 1, of a field, a revision and a text
first : ℕ → ℕ → List ℕ → List ℕ
first f r t = message_of 1 f (r by adviser) t

-- 00 0A 01 0E 00 00 00 01 30 30 34 35
bik : List ℕ
bik = 0 ∷ 10 ∷ 1 ∷ 14 ∷ 0 ∷ 0 ∷ 0 ∷ 1 ∷ bytes "0045"

-- a later message of the same revision and another text changes nothing; one of revision 2 and no text blanks the field
ends : map (end_slot 0) ((bik ∷ first 14 1 (bytes "1") ∷ []) ∷ (first 14 2 [] ∷ bik ∷ []) ∷ (first 15 1 [] ∷ []) ∷ [])
    ≡ slot_bytes (1 by adviser) (bytes "0045") ∷ slot_bytes (2 by adviser) [] ∷ empty_slot ∷ []
unfolding first bik end_slot rank_in names rank_of drafts_computing
ends = refl

text : ℕ → List ℕ
text n = replicate n 48

-- under two bytes; L of 0, 5, 33 and one off the rest; versions 0 and 3; fields 0, 13, 16, 110, 255; revision 0; "Number order is test
-- order": of two faults the one with the lower number is named
refusals : map (λ (m : List ℕ). number_of (reading_of m)) (
    []
    ∷ (0 ∷ [])
    ∷ (0 ∷ 0 ∷ [])
    ∷ (0 ∷ 5 ∷ 1 ∷ 14 ∷ 0 ∷ 0 ∷ 0 ∷ [])
    ∷ (0 ∷ 33 ∷ 2 ∷ 1 ∷ 14 ∷ 0 ∷ 0 ∷ 0 ∷ 1 ∷ text 26)
    ∷ (first 14 1 (text 3) ++ (48 ∷ []))
    ∷ (0 ∷ 7 ∷ 1 ∷ 14 ∷ 0 ∷ 0 ∷ 0 ∷ 1 ∷ [])
    ∷ (0 ∷ 6 ∷ 0 ∷ 14 ∷ 0 ∷ 0 ∷ 0 ∷ 1 ∷ [])
    ∷ (0 ∷ 6 ∷ 3 ∷ 14 ∷ 0 ∷ 0 ∷ 0 ∷ 1 ∷ [])
    ∷ first 0 1 []
    ∷ first 13 1 []
    ∷ first 16 1 []
    ∷ first 110 1 []
    ∷ first 255 1 []
    ∷ first 14 0 []
    ∷ (0 ∷ 5 ∷ 2 ∷ 16 ∷ 0 ∷ 0 ∷ 0 ∷ [])
    ∷ (0 ∷ 6 ∷ 3 ∷ 16 ∷ 0 ∷ 0 ∷ 0 ∷ 0 ∷ [])
    ∷ (0 ∷ 6 ∷ 1 ∷ 16 ∷ 0 ∷ 0 ∷ 0 ∷ 0 ∷ [])
    ∷ (0 ∷ 6 ∷ 1 ∷ 14 ∷ 0 ∷ 0 ∷ 0 ∷ 0 ∷ [])
    ∷ []
    )
    ≡ 2 ∷ 2 ∷ 2 ∷ 2 ∷ 2 ∷ 2 ∷ 2 ∷ 3 ∷ 3 ∷ 4 ∷ 4 ∷ 4 ∷ 4 ∷ 4 ∷ 5 ∷ 2 ∷ 3 ∷ 4 ∷ 5 ∷ []
unfolding first text drafts_computing
refusals = refl

-- the document's message; L of 6 and 31; the highest revision: version, party, field, revision
readings : map reading_of (bik ∷ first 14 1 [] ∷ first 109 4294967295 (text 25) ∷ [])
    ≡ success (1 ∷ 2 ∷ 14 ∷ 1 ∷ []) ∷ success (1 ∷ 2 ∷ 14 ∷ 1 ∷ []) ∷ success (1 ∷ 2 ∷ 109 ∷ 4294967295 ∷ []) ∷ []
unfolding first bik text drafts_computing
readings = refl

-- ---- the fifteen fields: of all field numbers these are read and written, and they stand in slots 0 to 14

fifteen : List ℕ
fifteen = 14 ∷ 15 ∷ 17 ∷ 22 ∷ 60 ∷ 61 ∷ 101 ∷ 102 ∷ 103 ∷ 104 ∷ 105 ∷ 106 ∷ 107 ∷ 108 ∷ 109 ∷ []

-- a message of a field, revision 258 and the text "7"
seven : ℕ → List ℕ
seven f = 0 ∷ 7 ∷ 1 ∷ f ∷ 0 ∷ 0 ∷ 1 ∷ 2 ∷ 55 ∷ []

-- of the n numbers from f on, those that a test passes
chosen : (ℕ → Bool) → ℕ → ℕ → List ℕ
chosen p zero f = []
chosen p (suc n) f = cond (p f) (f ∷ chosen p n (suc f)) (chosen p n (suc f))

fields-codec :
    (chosen (λ (f : ℕ). readable (seven f)) 256 0 ≡ fifteen)
    × (map (λ (f : ℕ). reading_of (seven f)) fifteen ≡ map (λ (f : ℕ). success (1 ∷ 2 ∷ f ∷ 258 ∷ [])) fifteen)
    × (map (λ (f : ℕ). written_of 1 f (258 by adviser) (bytes "7") (replicate 11 9)) fifteen ≡ map (λ (f : ℕ). seven f ++ (9 ∷ 9 ∷ [])) fifteen)
    × (map (λ (f : ℕ). writing_of 1 f (258 by adviser) (bytes "7") (replicate 9 0)) fifteen ≡ map (λ (f : ℕ). success (9 ∷ [])) fifteen)
    × (map slot_of fifteen ≡ 0 ∷ 1 ∷ 2 ∷ 3 ∷ 4 ∷ 5 ∷ 6 ∷ 7 ∷ 8 ∷ 9 ∷ 10 ∷ 11 ∷ 12 ∷ 13 ∷ 14 ∷ [])
unfolding fifteen seven chosen drafts_computing
fields-codec = (refl, refl, refl, refl, refl)

-- posted to a fresh draft, a message of field 17 stands in the third slot, byte for byte
field-posted : posted_to fresh_draft (seven 17) ≡ replicate 62 0 ++ (0 ∷ 0 ∷ 1 ∷ 2 ∷ 2 ∷ 1 ∷ 55 ∷ []) ++ replicate 396 0
unfolding seven drafts_computing
field-posted = refl

-- ---- drafts, well formed and malformed

-- a draft that is all zero but for the first bytes of its last slot
ending : List ℕ → ℕ → List ℕ
ending s n = replicate 434 0 ++ s ++ replicate n 0

-- all zero, with a byte too few and too many; a text of 25 bytes; a blanked field; a length of 26; a pad byte behind "0" and at the end;
-- a text with revision 0, and with a revision of which only the first byte is not 0
drafts : map draft_formed (
    replicate 465 0
    ∷ replicate 464 0
    ∷ replicate 466 0
    ∷ ending (0 ∷ 0 ∷ 0 ∷ 1 ∷ 2 ∷ 25 ∷ text 25) 0
    ∷ ending (0 ∷ 0 ∷ 0 ∷ 1 ∷ 2 ∷ []) 26
    ∷ ending (0 ∷ 0 ∷ 0 ∷ 1 ∷ 2 ∷ 26 ∷ text 25) 0
    ∷ ending (0 ∷ 0 ∷ 0 ∷ 1 ∷ 2 ∷ 1 ∷ 48 ∷ 1 ∷ []) 23
    ∷ ending (0 ∷ 0 ∷ 0 ∷ 1 ∷ 2 ∷ (replicate 25 0 ++ (1 ∷ []))) 0
    ∷ ending (0 ∷ 0 ∷ 0 ∷ 0 ∷ 0 ∷ 1 ∷ 48 ∷ []) 24
    ∷ ending (1 ∷ 0 ∷ 0 ∷ 0 ∷ 2 ∷ 1 ∷ 48 ∷ []) 24
    ∷ []
    )
    ≡ true ∷ false ∷ false ∷ true ∷ true ∷ false ∷ false ∷ false ∷ false ∷ true ∷ []
unfolding text ending drafts_computing
drafts = refl

-- the same in each slot: a length of 26, a pad byte at the end, a text with revision 0; R-8: a party with revision 0, and none or an
-- unknown one with another
at_slot : ℕ → List ℕ → List ℕ
at_slot k s = put (replicate 465 0) (k * 31) s

drafts-slots :
    (map (λ (k : ℕ). draft_formed (at_slot k (0 ∷ 0 ∷ 0 ∷ 1 ∷ 2 ∷ 26 ∷ []))) slots ≡ map (λ (k : ℕ). false) slots)
    × (map (λ (k : ℕ). draft_formed (at_slot k (0 ∷ 0 ∷ 0 ∷ 1 ∷ 2 ∷ (replicate 25 0 ++ (1 ∷ []))))) slots ≡ map (λ (k : ℕ). false) slots)
    × (map (λ (k : ℕ). draft_formed (at_slot k (0 ∷ 0 ∷ 0 ∷ 0 ∷ 0 ∷ 1 ∷ 48 ∷ []))) slots ≡ map (λ (k : ℕ). false) slots)
    × (map (λ (k : ℕ). draft_formed (at_slot k (0 ∷ 0 ∷ 1 ∷ 0 ∷ 1 ∷ 1 ∷ 48 ∷ []))) slots ≡ map (λ (k : ℕ). true) slots)
    × (map (λ (k : ℕ). draft_formed (at_slot k (0 ∷ 0 ∷ 0 ∷ 0 ∷ 1 ∷ []))) slots ≡ map (λ (k : ℕ). false) slots)
    × (map (λ (k : ℕ). draft_formed (at_slot k (0 ∷ 0 ∷ 0 ∷ 1 ∷ 0 ∷ []))) slots ≡ map (λ (k : ℕ). false) slots)
    × (map (λ (k : ℕ). draft_formed (at_slot k (0 ∷ 0 ∷ 0 ∷ 1 ∷ 3 ∷ []))) slots ≡ map (λ (k : ℕ). false) slots)
unfolding at_slot drafts_computing
drafts-slots = (refl, refl, refl, refl, refl, refl, refl)

-- the answers of writing, of the lower number first too: 2, 3, 13, 4, 5, 7
writings : map number_of (
    writing_of 3 16 (0 by 3) (text 26) []
    ∷ writing_of 3 16 (0 by 3) (text 25) []
    ∷ writing_of 2 16 (0 by 3) (text 25) []
    ∷ writing_of 2 16 (0 by 0) (text 25) []
    ∷ writing_of 1 16 (0 by client) (text 25) []
    ∷ writing_of 1 16 (0 by 3) (text 25) []
    ∷ writing_of 1 16 (0 by adviser) (text 25) []
    ∷ writing_of 2 14 (0 by client) (text 25) []
    ∷ writing_of 1 14 (1 by adviser) (text 25) (text 32)
    ∷ writing_of 1 14 (1 by adviser) (text 25) (text 33)
    ∷ writing_of 2 14 (1 by client) (text 25) (text 33)
    ∷ writing_of 2 14 (1 by client) (text 25) (text 34)
    ∷ []
    )
    ≡ 2 ∷ 3 ∷ 13 ∷ 13 ∷ 13 ∷ 13 ∷ 4 ∷ 5 ∷ 7 ∷ 0 ∷ 7 ∷ 0 ∷ []
unfolding text drafts_computing
writings = refl

-- those of fresh, copying and posting
answers : map number_of (
    beginning_of (replicate 450 0)
    ∷ beginning_of (replicate 464 0)
    ∷ beginning_of (replicate 465 7)
    ∷ copying_of (replicate 464 0) []
    ∷ copying_of (replicate 465 0) (replicate 389 0)
    ∷ copying_of (replicate 465 0) (replicate 390 7)
    ∷ posting_of (replicate 464 0) bik
    ∷ posting_of (posted_to fresh_draft bik) (first 14 1 (bytes "1"))
    ∷ []
    )
    ≡ 1 ∷ 1 ∷ 0 ∷ 1 ∷ 7 ∷ 0 ∷ 1 ∷ 6 ∷ []
unfolding first bik drafts_computing
answers = refl

-- the first message of a field, and a later one by its revision
standings : posting_of fresh_draft bik ∷ map (posting_of (posted_to fresh_draft (first 14 2 (bytes "0045")))) (first 14 3 [] ∷ first 14 2 (bytes "0045") ∷ bik ∷ [])
    ≡ success (bytes "newer") ∷ success (bytes "newer") ∷ success (bytes "same") ∷ success (bytes "older") ∷ []
unfolding first bik drafts_computing
standings = refl
