-- R-8's table: messages of both versions read, and postings of both parties to field 60, in their bytes.
use mathlib.Core.Path.{◌≡◌, refl, sym, ap, subst}
use mathlib.Core.Logic.{⊎_elim}
use mathlib.Core.Bool.{true, false≢true}
use mathlib.Core.List.Memᴰ
use mathlib.Core.List.{List, [], ◌∷◌, ◌++◌, map, Memᴰ}
use Prim.Native.Nat.{ℕ}
use native.Mathlib.Omega.{arith}
use lib.ListN.{replicate}
use Rattle.texts.specs.Quoted.{bytes}
use Rattle.texts.specs.Answers.{Answer, success, refusal}
use Rattle.drafts.specs.Message.{party_of, message_field, revision_of, message_text, readable, reading_of, writing_of, written_of}
use Rattle.drafts.specs.Revision.{◌by◌}
use Rattle.drafts.specs.Draft.{slot_in, rank_of, fresh_draft, posting_of, posted_to}
use Rattle.drafts.specs.History.{posted_all, names, rank_in, end_slot, NoClash, WroteAlone}
use Rattle.drafts.specs.declared.revision.Revision.{Revision}
use Rattle.drafts.specs.Working.Computing.{drafts_computing}

-- ---- messages: what reading answers, by version, party, field and revision

text : ℕ → List ℕ
text n = replicate n 48

abbrev Reading : Type 0
Reading = List ℕ × Answer

readings : List Reading
readings =
    -- "Version 1 counts as the adviser"; 1 client; 2 adviser
    ((0 ∷ 6 ∷ 1 ∷ 14 ∷ 0 ∷ 0 ∷ 0 ∷ 1 ∷ []), success (1 ∷ 2 ∷ 14 ∷ 1 ∷ []))
    ∷ ((0 ∷ 7 ∷ 2 ∷ 1 ∷ 14 ∷ 0 ∷ 0 ∷ 0 ∷ 1 ∷ []), success (2 ∷ 1 ∷ 14 ∷ 1 ∷ []))
    ∷ ((0 ∷ 7 ∷ 2 ∷ 2 ∷ 14 ∷ 0 ∷ 0 ∷ 0 ∷ 1 ∷ []), success (2 ∷ 2 ∷ 14 ∷ 1 ∷ []))
    -- L of 31 in version 1, of 32 in version 2
    ∷ ((0 ∷ 31 ∷ 1 ∷ 14 ∷ 0 ∷ 0 ∷ 0 ∷ 1 ∷ text 25), success (1 ∷ 2 ∷ 14 ∷ 1 ∷ []))
    ∷ ((0 ∷ 32 ∷ 2 ∷ 1 ∷ 14 ∷ 0 ∷ 0 ∷ 0 ∷ 1 ∷ text 25), success (2 ∷ 1 ∷ 14 ∷ 1 ∷ []))
    -- "an L its version doesn't allow": 6 in version 2, with a party byte and without, 32 in version 1
    ∷ ((0 ∷ 6 ∷ 2 ∷ 1 ∷ 14 ∷ 0 ∷ 0 ∷ 0 ∷ []), refusal 2 [])
    ∷ ((0 ∷ 6 ∷ 2 ∷ 14 ∷ 0 ∷ 0 ∷ 0 ∷ 1 ∷ []), refusal 2 [])
    ∷ ((0 ∷ 32 ∷ 1 ∷ 14 ∷ 0 ∷ 0 ∷ 0 ∷ 1 ∷ text 26), refusal 2 [])
    ∷ ((0 ∷ 32 ∷ 1 ∷ 0 ∷ 0 ∷ 0 ∷ 0 ∷ 0 ∷ text 26), refusal 2 [])
    -- "tested after 3": a version other than 1 or 2 is told first, but behind an L above 32
    ∷ ((0 ∷ 6 ∷ 3 ∷ 14 ∷ 0 ∷ 0 ∷ 0 ∷ 1 ∷ []), refusal 3 [])
    ∷ ((0 ∷ 6 ∷ 0 ∷ 14 ∷ 0 ∷ 0 ∷ 0 ∷ 1 ∷ []), refusal 3 [])
    ∷ ((0 ∷ 32 ∷ 3 ∷ text 31), refusal 3 [])
    ∷ ((0 ∷ 33 ∷ 3 ∷ text 32), refusal 2 [])
    -- "13 an unknown party", "just before 4"; then 4 and 5
    ∷ ((0 ∷ 7 ∷ 2 ∷ 0 ∷ 14 ∷ 0 ∷ 0 ∷ 0 ∷ 1 ∷ []), refusal 13 [])
    ∷ ((0 ∷ 7 ∷ 2 ∷ 3 ∷ 14 ∷ 0 ∷ 0 ∷ 0 ∷ 1 ∷ []), refusal 13 [])
    ∷ ((0 ∷ 7 ∷ 2 ∷ 0 ∷ 13 ∷ 0 ∷ 0 ∷ 0 ∷ 0 ∷ []), refusal 13 [])
    ∷ ((0 ∷ 7 ∷ 2 ∷ 1 ∷ 13 ∷ 0 ∷ 0 ∷ 0 ∷ 0 ∷ []), refusal 4 [])
    ∷ ((0 ∷ 7 ∷ 2 ∷ 1 ∷ 14 ∷ 0 ∷ 0 ∷ 0 ∷ 0 ∷ []), refusal 5 [])
    ∷ []

read : map (λ (e : Reading). reading_of e.0) readings ≡ map (λ (e : Reading). e.1) readings
unfolding readings text drafts_computing
read = refl

-- what the writer makes of revision 5 of field 60 and the text "x", and where it needs a byte more
written :
    (written_of 1 60 (5 by 2) (bytes "x") (replicate 11 9) ≡ 0 ∷ 7 ∷ 1 ∷ 60 ∷ 0 ∷ 0 ∷ 0 ∷ 5 ∷ 120 ∷ 9 ∷ 9 ∷ [])
    × (written_of 2 60 (5 by 1) (bytes "x") (replicate 11 9) ≡ 0 ∷ 8 ∷ 2 ∷ 1 ∷ 60 ∷ 0 ∷ 0 ∷ 0 ∷ 5 ∷ 120 ∷ 9 ∷ [])
    × (written_of 2 60 (5 by 2) (bytes "x") (replicate 11 9) ≡ 0 ∷ 8 ∷ 2 ∷ 2 ∷ 60 ∷ 0 ∷ 0 ∷ 0 ∷ 5 ∷ 120 ∷ 9 ∷ [])
    × (writing_of 2 60 (5 by 2) (bytes "x") (replicate 9 9) ≡ refusal 7 [])
    × (writing_of 2 60 (5 by 2) (bytes "x") (replicate 10 9) ≡ success (10 ∷ []))
unfolding drafts_computing
written = (refl, refl, refl, refl, refl)

-- ---- postings to field 60, of the client (C) and the adviser (A), each with a revision and a text

C5x : List ℕ
C5x = 0 ∷ 8 ∷ 2 ∷ 1 ∷ 60 ∷ 0 ∷ 0 ∷ 0 ∷ 5 ∷ 120 ∷ []

C5y : List ℕ
C5y = 0 ∷ 8 ∷ 2 ∷ 1 ∷ 60 ∷ 0 ∷ 0 ∷ 0 ∷ 5 ∷ 121 ∷ []

A5x : List ℕ
A5x = 0 ∷ 8 ∷ 2 ∷ 2 ∷ 60 ∷ 0 ∷ 0 ∷ 0 ∷ 5 ∷ 120 ∷ []

A5y : List ℕ
A5y = 0 ∷ 8 ∷ 2 ∷ 2 ∷ 60 ∷ 0 ∷ 0 ∷ 0 ∷ 5 ∷ 121 ∷ []

A4x : List ℕ
A4x = 0 ∷ 8 ∷ 2 ∷ 2 ∷ 60 ∷ 0 ∷ 0 ∷ 0 ∷ 4 ∷ 120 ∷ []

-- A5x in version 1
V5x : List ℕ
V5x = 0 ∷ 7 ∷ 1 ∷ 60 ∷ 0 ∷ 0 ∷ 0 ∷ 5 ∷ 120 ∷ []

-- the messages, their answers, and how the slot ends: its revision's last byte, its party, its text
abbrev Posting : Type 0
Posting = List (List ℕ) × List Answer × List ℕ

newer : Answer
newer = success (bytes "newer")

same : Answer
same = success (bytes "same")

older : Answer
older = success (bytes "older")

postings : List Posting
postings =
    -- "at equal revisions the adviser's stands over the client's, whichever came first"
    ((C5x ∷ A5y ∷ []), (newer ∷ newer ∷ []), (5 ∷ 2 ∷ 1 ∷ 121 ∷ []))
    ∷ ((A5y ∷ C5x ∷ []), (newer ∷ older ∷ []), (5 ∷ 2 ∷ 1 ∷ 121 ∷ []))
    ∷ ((C5x ∷ A5x ∷ []), (newer ∷ newer ∷ []), (5 ∷ 2 ∷ 1 ∷ 120 ∷ []))
    ∷ ((A5x ∷ C5x ∷ []), (newer ∷ older ∷ []), (5 ∷ 2 ∷ 1 ∷ 120 ∷ []))
    -- the versions do not matter; "Clash 6 needs equal party too"
    ∷ ((V5x ∷ A5x ∷ []), (newer ∷ same ∷ []), (5 ∷ 2 ∷ 1 ∷ 120 ∷ []))
    ∷ ((V5x ∷ A5y ∷ []), (newer ∷ refusal 6 [] ∷ []), (5 ∷ 2 ∷ 1 ∷ 120 ∷ []))
    ∷ ((A5x ∷ A5y ∷ []), (newer ∷ refusal 6 [] ∷ []), (5 ∷ 2 ∷ 1 ∷ 120 ∷ []))
    ∷ ((C5x ∷ C5y ∷ C5x ∷ []), (newer ∷ refusal 6 [] ∷ same ∷ []), (5 ∷ 1 ∷ 1 ∷ 120 ∷ []))
    -- "The higher revision stands", the client's too
    ∷ ((A4x ∷ C5y ∷ []), (newer ∷ newer ∷ []), (5 ∷ 1 ∷ 1 ∷ 121 ∷ []))
    ∷ ((C5y ∷ A4x ∷ []), (newer ∷ older ∷ []), (5 ∷ 1 ∷ 1 ∷ 121 ∷ []))
    ∷ []

-- what each of a list of postings answers
answers_of : List ℕ → List (List ℕ) → List Answer
answers_of d [] = []
answers_of d (m ∷ ms) = posting_of d m ∷ answers_of (posted_to d m) ms

answered : map (λ (e : Posting). answers_of fresh_draft e.0) postings ≡ map (λ (e : Posting). e.1) postings
unfolding postings C5x C5y A5x A5y A4x V5x newer same older answers_of drafts_computing
answered = refl

-- the slot as the postings leave it, and as the account of the list has it
ended :
    (map (λ (e : Posting). slot_in (posted_all e.0) 4) postings ≡ map (λ (e : Posting). (0 ∷ 0 ∷ 0 ∷ e.2) ++ replicate 24 0) postings)
    × (map (λ (e : Posting). end_slot 4 e.0) postings ≡ map (λ (e : Posting). (0 ∷ 0 ∷ 0 ∷ e.2) ++ replicate 24 0) postings)
unfolding postings C5x C5y A5x A5y A4x V5x newer same older posted_all end_slot rank_in names rank_of drafts_computing
ended = (refl, refl)

-- ---- the premises on a list are true of lists in which both parties write

-- the client's "z" in field 108
C3z : List ℕ
C3z = 0 ∷ 8 ∷ 2 ∷ 1 ∷ 108 ∷ 0 ∷ 0 ∷ 0 ∷ 3 ∷ 122 ∷ []

both-are : (P : List ℕ → Type 0) (a b : List ℕ) → P a → P b → (m : List ℕ) → Memᴰ m (a ∷ b ∷ []) → P m
both-are P a b pa pb m h = ⊎_elim (λ e. subst P (sym e) pa) (λ t. subst P (sym (Memᴰ.eq_of_singleton t)) pb) (Memᴰ.cases_cons h)

abbrev Agree : List ℕ → List ℕ → Type 0
Agree a b = readable a ≡ true → readable b ≡ true → message_field a ≡ message_field b → revision_of a ≡ revision_of b → message_text a ≡ message_text b

-- "same field, revision and party, same text": the same revision of another party may have another text
no-clash : NoClash (C5x ∷ A5y ∷ [])
unfolding C5x A5y drafts_computing
no-clash a b p q =
    both-are (λ (x : List ℕ). Agree x b) C5x A5y
    (both-are (Agree C5x) C5x A5y (λ r s f v. refl) (λ r s f v. let e : ◌≡◌ {A = ℕ} 1 2 = ap (λ (u : Revision). u.party.0) v in absurd (omega arith)) b q)
    (both-are (Agree A5y) C5x A5y (λ r s f v. let e : ◌≡◌ {A = ℕ} 2 1 = ap (λ (u : Revision). u.party.0) v in absurd (omega arith)) (λ r s f v. refl) b q)
    a p

-- "A field that only one party wrote": the adviser field 60, beside the client's field 108
wrote-alone : WroteAlone 2 4 (A5y ∷ C3z ∷ [])
unfolding A5y C3z names drafts_computing
wrote-alone = both-are (λ (m : List ℕ). names 4 m ≡ true → party_of m ≡ 2) A5y C3z (λ t. refl) (λ t. absurd (false≢true t))
