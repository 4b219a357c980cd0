-- R-9: taking up part of a proposal, by a draft, a proposed sheet and a set of slots.
use Rattle.std.specs.Prelude.{◌≡◌, Bool, true, not, cond, ◌&&◌, ◌||◌, List, [], ◌∷◌, ◌++◌, ℕ, zero, suc, ◌+◌, ◌/◌, ◌%◌, ◌^◌, ◌<◌, eqb, ltb, length, Result, Ok, Err}
use Rattle.texts.specs.Texts.{every, blank}
use Rattle.texts.specs.Refusals.{refusal_number}
use Rattle.texts.specs.Answers.{Answer, success, refusal, Test, ◌refuses◌, ◌refuses◌with◌, answer_by, buffer_by}
use Rattle.sheets.specs.Sheet.{slots, slot_count, sheet_size, field_in, text_of, given, well_formed}
use Rattle.sheets.specs.declared.dates.Dates.{Dates}
use Rattle.drafts.specs.Revision.{adviser, ◌by◌}
use Rattle.drafts.specs.Message.{message_of}
use Rattle.drafts.specs.Draft.{slot_in, slot_revision, slot_text, slot_bytes, draft_formed}
use Rattle.drafts.specs.History.{posted_from}
use Rattle.drafts.specs.declared.revision.Revision.{Revision}
use Rattle.orders.specs.Fillings.{list_of}
use Rattle.orders.specs.Complete.{completing, completed}
use Rattle.orders.specs.Again.{CompletesAgain}
use Rattle.orders.specs.declared.take_up.Untaken.{Untaken}
use Rattle.orders.specs.declared.take_up.Untaken.TheVariants.{Unfit, Refused}

-- slot i is in a set: its bit i is 1
abbrev pub in_set : ℕ → ℕ → Bool
in_set set i = eqb (set / 2 ^ i % 2) 1

-- "below the greatest revision" of four bytes
abbrev pub greatest : ℕ
greatest = 4294967295

-- slot i of the draft d can take up what the sheet t has: its field has a list, it is blank, a value is proposed, and there is a revision
-- after its own
unfoldable pub fit : Dates → List ℕ → List ℕ → ℕ → Bool
fit D d t i = (ltb 0 (length (list_of D i)) && blank (slot_text (slot_in d i))) && (given t i && ltb (slot_revision (slot_in d i)).number greatest)

-- slot i is not in the set, or can take up its value
unfoldable pub spared : Dates → List ℕ → List ℕ → ℕ → ℕ → Bool
spared D d t set i = not (in_set set i) || fit D d t i

-- the places of a 16-bit set: the slots, and one that is no slot's
abbrev pub set_places : List ℕ
set_places = slots ++ (slot_count ∷ [])

-- the field of the first slot of the set that can't take up its value; 0 for the place that is no slot's
abbrev pub first_unfit : (ℕ → Bool) → List ℕ → ℕ
first_unfit p [] = 0
first_unfit p (i ∷ is) = cond (p i) (first_unfit p is) (field_in i)

-- 1: "draft or sheet malformed"; 7: "a sheet not of 390"; 20, with the field: a slot of the set that can't take up its value
unfoldable pub take_tests : Dates → List ℕ → List ℕ → ℕ → List Test
take_tests D d t set =
    (not (draft_formed d) || (eqb (length t) sheet_size && not (well_formed t)) refuses 1)
    ∷ (not (eqb (length t) sheet_size) refuses 7)
    ∷ (not (every (spared D d t set) set_places) refuses 20 with (first_unfit (spared D d t set) set_places ∷ []))
    ∷ []

-- the adviser's revision after that of slot i, whoever gave it
abbrev pub next : List ℕ → ℕ → Revision
next d i = ((slot_revision (slot_in d i)).number + 1) by adviser

-- the proposed text of slot i, with the revision after its slot's, as a message of version 1: it "counts as the adviser"
abbrev pub proposal : List ℕ → List ℕ → ℕ → List ℕ
proposal d t i = message_of 1 (field_in i) (next d i) (text_of t i)

-- one for each slot of the set below n
abbrev pub proposals : List ℕ → List ℕ → ℕ → ℕ → List (List ℕ)
proposals d t set zero = []
proposals d t set (suc n) = proposals d t set n ++ cond (in_set set n) (proposal d t n ∷ []) []

unfoldable pub taking : Dates → List ℕ → List ℕ → ℕ → Answer
taking D d t set = answer_by (take_tests D d t set) []

-- they are posted one after another
unfoldable pub taken_into : Dates → List ℕ → List ℕ → ℕ → List ℕ
taken_into D d t set = buffer_by (take_tests D d t set) (posted_from d (proposals d t set slot_count)) d

unfoldable pub take_answer : Result Unit Untaken → Answer
take_answer (Ok u) = success []
take_answer (Err (Unfit f)) = refusal 20 (f.0 ∷ [])
take_answer (Err (Refused n)) = refusal (refusal_number n) []

-- the promise of `take_up`: of the draft d, the sheet t and the set it answered r and left e
pub record TakesUp (D : Dates) (d t : List ℕ) (set : ℕ) (r : Result Unit Untaken) (e : List ℕ) : Type 0 where
  pub answer : take_answer r ≡ taking D d t set
  pub draft : e ≡ taken_into D d t set
  -- a refusal changes nothing, not even some of the slots
  pub refused : (r ≡ Ok tt → ⊥) → e ≡ d
  -- each slot of the set holds the sheet's text, with the revision after its own, as the adviser's; every other slot is as it was
  pub slot : r ≡ Ok tt → (i : ℕ) → i < slot_count → slot_in e i ≡ cond (in_set set i) (slot_bytes (next d i) (text_of t i)) (slot_in d i)
  -- every part of a proposal is taken up, where its "slots are below the greatest revision"
  pub made :
      (b : List ℕ) (n all k : ℕ)
      → completing D d b ≡ success (n ∷ all ∷ k ∷ [])
      → completed D d b ≡ t
      → ((i : ℕ) → i < slot_count + 1 → in_set set i ≡ true → (in_set all i ≡ true) × ((slot_revision (slot_in d i)).number < greatest))
      → r ≡ Ok tt
  -- "At the same date and record the draft must then complete to the very same sheet, and its count must be no larger than before"
  pub again :
      r ≡ Ok tt
      → (b : List ℕ) (n all k : ℕ)
      → completing D d b ≡ success (n ∷ all ∷ k ∷ [])
      → completed D d b ≡ t
      → (c : List ℕ)
      → length c ≡ sheet_size
      → CompletesAgain D (in_set set) d b n e c
