-- R-9 in examples: counts after some values were taken up, what the slots hold then, and what is refused.
use mathlib.Core.Path.{◌≡◌, refl, sym, ap, ◌∙◌, subst}
use mathlib.Core.Logic.{inl, inr}
use mathlib.Core.Bool.{Bool, true, false, cond, not, ◌&&◌, ◌||◌, false≢true}
use mathlib.Core.List.Memᴰ
use mathlib.Core.List.{List, [], ◌∷◌, ◌++◌, map, Memᴰ}
use Prim.Native.Nat.{ℕ, ◌+◌, ◌<◌}
use Prim.Native.String.{String}
use native.Mathlib.Omega.{arith}
use borrow.Author.Tests.{ltb-true, eqb-true}
use lib.Count.{ones}
use lib.Dec.{eqb, ltb}
use lib.ListN.{length, get_or, replicate}
use Rattle.texts.specs.Quoted.{words}
use Rattle.texts.specs.Texts.{every, blank}
use Rattle.texts.specs.Numbers.{Bytes}
use Rattle.texts.specs.Answers.{success, refusal}
use Rattle.texts.proofs.Bools.{both}
use Rattle.sheets.specs.Sheet.{slot_count, slot_of, cell, text_of}
use Rattle.sheets.specs.Dates.{dates_fit}
use Rattle.sheets.specs.Tables.DatesTable.{given}
use Rattle.sheets.specs.declared.dates.Dates.{Dates}
use Rattle.sheets.specs.Working.Entries.{filled_at}
use Rattle.rules.specs.Working.Computing.{rules_computing}
use Rattle.drafts.specs.Revision.{◌below◌}
use Rattle.drafts.specs.Message.{message_field, revision_of, message_text, readable}
use Rattle.drafts.specs.Draft.{slot_in, slot_revision, draft_formed, draft_sheet}
use Rattle.drafts.specs.History.{posted_from}
use Rattle.drafts.specs.Working.Computing.{drafts_computing}
use Rattle.fillings.specs.Fillings.{joined, Look, found, none, look}
use Rattle.fillings.specs.Fillings as of
use Rattle.fillings.specs.Filled as set
use Rattle.fillings.specs.Working.Places.{places}
use Rattle.fillings.specs.Working.Parts.{map_look}
use Rattle.fillings.proofs.EveryFilling.{every-at, every-mem}
use Rattle.orders.specs.Fillings.{list_of, to_fill, first_filling}
use Rattle.orders.specs.Complete.{budget_payment, completing, completed}
use Rattle.orders.specs.Again.{Choice, chosen_by, CompletesAgain}
use Rattle.orders.specs.Whole.{Completes}
use Rattle.orders.specs.Working.Search.{passes_at, picks, first_pick}
use Rattle.orders.specs.Working.Entering.{base_of, picked_of}
use Rattle.orders.specs.TakeUp.{in_set, greatest, fit, spared, take_tests, taking, taken_into, TakesUp}
use Rattle.orders.specs.declared.complete.Filled.{Filled}
use Rattle.orders.specs.declared.complete.Incomplete.{Incomplete}
use Rattle.std.specs.Prelude.{Result, Ok}
use Rattle.orders.specs.declared.take_up.Untaken.{Untaken}
use Rattle.orders.proofs.Keeping.{first-is}
use Rattle.orders.proofs.Whole.{answer-is, sheet-is, look_answer, look_sheet}
use Rattle.orders.proofs.Skipping.{at_place}
use Rattle.orders.proofs.Counts.{sheet}

-- a draft by its texts in slot order, parted by spaces, each with revision 1 of the client, the blanks with 0
unfoldable draft : String → List ℕ
draft q = joined (map (λ (t : List ℕ). 0 ∷ 0 ∷ 0 ∷ cond (blank t) 0 1 ∷ cond (blank t) 0 1 ∷ cell t) (words q))

-- S with 22, 101, 105 to 109 blank, and 60 and 102 "0"; what completion proposes, at count 97
abbrev order : String
order = "004525987 40102810845370000004 03100643000000014800  0 6730054024  0 772801001 18201061201010000510     "

abbrev proposed : String
proposed = "004525987 40102810845370000004 03100643000000014800 0 0 6730054024 04 0 772801001 18201061201010000510 0 0 0 0 0"

-- a set, the sheet's texts after its values were taken up, and the count then
abbrev Row : Type 0
Row = ℕ × String × ℕ

rows : List Row
rows =
    -- none; 101; 106; 108; 106, 108 and 109; 22, 105 and 107; all
    (0, "004525987 40102810845370000004 03100643000000014800  0 6730054024  0 772801001 18201061201010000510     ", 97)
    ∷ (64, "004525987 40102810845370000004 03100643000000014800  0 6730054024 04 0 772801001 18201061201010000510     ", 1)
    ∷ (2048, "004525987 40102810845370000004 03100643000000014800  0 6730054024  0 772801001 18201061201010000510  0   ", 9)
    ∷ (8192, "004525987 40102810845370000004 03100643000000014800  0 6730054024  0 772801001 18201061201010000510    0 ", 49)
    ∷ (26624, "004525987 40102810845370000004 03100643000000014800  0 6730054024  0 772801001 18201061201010000510  0  0 0", 3)
    ∷ (5128, "004525987 40102810845370000004 03100643000000014800 0 0 6730054024  0 772801001 18201061201010000510 0  0  ", 97)
    ∷ (31816, "004525987 40102810845370000004 03100643000000014800 0 0 6730054024 04 0 772801001 18201061201010000510 0 0 0 0 0", 1)
    ∷ []

taken : map (λ (e : Row). draft_sheet (taken_into (given 20240101) (draft order) (sheet proposed) e.0)) rows ≡ map (λ (e : Row). sheet e.1) rows
unfolding rows draft sheet taken_into take_tests spared fit list_of every drafts_computing
taken = refl

first-all : (es : List Row) → every (λ (e : Row). eqb (length (sheet e.1)) 390) es ≡ true
    → map (λ (e : Row). first_filling (given 20240101) (sheet e.1)) es
    ≡ map (λ (e : Row). map_look (picked_of (given 20240101) (base_of (sheet e.1))) (first_pick (given 20240101) (base_of (sheet e.1)))) es
unfolding every
first-all [] h = refl
first-all (e ∷ es) h =
    let p = both (eqb (length (sheet e.1)) 390) (every (λ (x : Row). eqb (length (sheet x.1)) 390) es) h in
    λ i. first-is (given 20240101) (sheet e.1) (eqb-true (length (sheet e.1)) 390 p.0) i ∷ first-all es p.1 i

-- the very same sheet each time
again : map (λ (e : Row). first_filling (given 20240101) (sheet e.1)) rows ≡ map (λ (e : Row). found e.2 (sheet proposed)) rows
unfolding rows sheet every look filled_at passes_at places picks first_pick base_of picked_of rules_computing
again = first-all rows refl

-- no slot given but 60 "0" of revision 1; without a text 101 of revision 255, 102 of 7, 108 of 4294967295, the greatest, and 109 of the one before; of the
-- client 60, 101 and 108
used : List ℕ
used =
    replicate 124 0 ++ (0 ∷ 0 ∷ 0 ∷ 1 ∷ 1 ∷ 1 ∷ 48 ∷ replicate 24 0) ++ replicate 31 0 ++ (0 ∷ 0 ∷ 0 ∷ 255 ∷ 1 ∷ replicate 26 0) ++ (0 ∷ 0 ∷ 0 ∷ 7 ∷ 2 ∷ replicate 26 0)
    ++ replicate 155 0 ++ (255 ∷ 255 ∷ 255 ∷ 255 ∷ 1 ∷ replicate 26 0) ++ (255 ∷ 255 ∷ 255 ∷ 254 ∷ 2 ∷ replicate 26 0)

-- what slots 4, 6, 7 and 14 hold after 101 and 109 were taken up: the adviser's
stored : map (slot_in (taken_into (given 20240101) used (sheet proposed) 16448)) (4 ∷ 6 ∷ 7 ∷ 14 ∷ [])
    ≡ (0 ∷ 0 ∷ 0 ∷ 1 ∷ 1 ∷ 1 ∷ 48 ∷ replicate 24 0)
    ∷ (0 ∷ 0 ∷ 1 ∷ 0 ∷ 2 ∷ 2 ∷ 48 ∷ 52 ∷ replicate 23 0)
    ∷ (0 ∷ 0 ∷ 0 ∷ 7 ∷ 2 ∷ replicate 26 0)
    ∷ (255 ∷ 255 ∷ 255 ∷ 255 ∷ 2 ∷ 1 ∷ 48 ∷ replicate 24 0)
    ∷ []
unfolding used sheet taken_into take_tests spared fit list_of every drafts_computing
stored = refl

-- a slot with a text; fields without a list; the bit that is no slot's; the greatest revision, alone and behind a slot that can take up its value; the
-- first of several; and taken up: 101, eight slots, none
answers : map (taking (given 20240101) used (sheet proposed)) (16 ∷ 1 ∷ 32 ∷ 256 ∷ 32768 ∷ 8192 ∷ 8256 ∷ 8272 ∷ 64 ∷ 24264 ∷ 0 ∷ [])
    ≡ refusal 20 (60 ∷ []) ∷ refusal 20 (14 ∷ []) ∷ refusal 20 (61 ∷ []) ∷ refusal 20 (103 ∷ []) ∷ refusal 20 (0 ∷ []) ∷ refusal 20 (108 ∷ [])
    ∷ refusal 20 (108 ∷ []) ∷ refusal 20 (60 ∷ []) ∷ success [] ∷ success [] ∷ success [] ∷ []
unfolding used sheet taking take_tests spared fit list_of every drafts_computing
answers = refl

-- nothing proposed; a malformed draft, also with a sheet of another size; a sheet of another size; a malformed one
others : taking (given 20240101) used (sheet order) 64
    ∷ taking (given 20240101) (replicate 464 0) (sheet proposed) 0
    ∷ taking (given 20240101) [] [] 1
    ∷ taking (given 20240101) used (replicate 389 0) 65535
    ∷ taking (given 20240101) used (26 ∷ replicate 389 0) 65535
    ∷ []
    ≡ refusal 20 (101 ∷ []) ∷ refusal 1 [] ∷ refusal 1 [] ∷ refusal 7 [] ∷ refusal 1 [] ∷ []
unfolding used sheet taking take_tests spared fit list_of every drafts_computing
others = refl

-- a refusal changes no slot
left : taken_into (given 20240101) used (sheet proposed) 8256 ≡ used
unfolding used sheet taken_into take_tests spared fit list_of every drafts_computing
left = refl

-- ---- the premises are true of this order

abbrev D : Dates
D = given 20240101

formed : draft_formed (draft order) ≡ true
unfolding draft every drafts_computing
formed = refl

sheet-of : draft_sheet (draft order) ≡ sheet order
unfolding draft sheet drafts_computing
sheet-of = refl

fits : dates_fit D ≡ true
unfolding rules_computing
fits = refl

paid : budget_payment D (draft_sheet (draft order)) ≡ true
unfolding draft budget_payment every rules_computing drafts_computing
paid = refl

-- "count 97", in the order's draft
looked : first_filling D (draft_sheet (draft order)) ≡ found 97 (sheet proposed)
unfolding rows
looked = ap (first_filling D) sheet-of ∙ ap (λ (l : List (Look (List ℕ))). head l) again
  where
    head : List (Look (List ℕ)) → Look (List ℕ)
    head [] = none 0
    head (x ∷ xs) = x

-- the message of 101 "04" with the revision 5 is a choice of its proposal
abbrev status : List ℕ
status = 0 ∷ 8 ∷ 1 ∷ 101 ∷ 0 ∷ 0 ∷ 0 ∷ 5 ∷ 48 ∷ 52 ∷ []

status-bytes : Bytes status
unfolding every
status-bytes j = every-at-byte status refl j
  where
    every-at-byte : (l : List ℕ) → every (λ (n : ℕ). ltb n 256) l ≡ true → (k : ℕ) → get_or l k 0 < 256
    every-at-byte l e k = ltb-true _ _ (every-at (λ (n : ℕ). ltb n 256) 0 refl l e k)

the-status : (P : List ℕ → Type 0) → P status → (m : List ℕ) → Memᴰ m (status ∷ []) → P m
the-status P p m h = subst P (sym (Memᴰ.eq_of_singleton h)) p

chosen : Choice D (draft order) (sheet proposed) (status ∷ [])
unfolding draft sheet of.to_fill list_of rules_computing drafts_computing
chosen = record {
  strings = the-status Bytes status-bytes;
  reads = the-status (λ (m : List ℕ). readable m ≡ true) refl;
  proposed = the-status (λ (m : List ℕ). to_fill D (draft_sheet (draft order)) (slot_of (message_field m)) ≡ true) refl;
  value = the-status (λ (m : List ℕ). message_text m ≡ text_of (sheet proposed) (slot_of (message_field m))) refl;
  above = the-status (λ (m : List ℕ). slot_revision (slot_in (draft order) (slot_of (message_field m))) below revision_of m) (inl (omega arith));
}

-- 101 and 106 are parts of the proposal, below the greatest revision
below-greatest : (i : ℕ) → i < slot_count + 1 → in_set 2112 i ≡ true → (in_set 31816 i ≡ true) × ((slot_revision (slot_in (draft order) i)).number < greatest)
unfolding every draft places drafts_computing
below-greatest i l h = go (in_set 2112 i) h (every-mem part {l = places (slot_count + 1) 0} refl (at_place (slot_count + 1) i l))
  where
    part : ℕ → Bool
    part k = not (in_set 2112 k) || (in_set 31816 k && ltb (slot_revision (slot_in (draft order) k)).number greatest)

    go : (x : Bool) → x ≡ true → (not x || (in_set 31816 i && ltb (slot_revision (slot_in (draft order) i)).number greatest)) ≡ true → (in_set 31816 i ≡ true) × ((slot_revision (slot_in (draft order) i)).number < greatest)
    go true e q = let p = both (in_set 31816 i) (ltb (slot_revision (slot_in (draft order) i)).number greatest) q in (p.0, ltb-true _ _ p.1)
    go false e q = absurd (false≢true e)

-- the same texts, each with revision 5 of the client, the blanks too: there the adviser's value of that revision is a choice
unfoldable clients : String → List ℕ
clients q = joined (map (λ (t : List ℕ). 0 ∷ 0 ∷ 0 ∷ 5 ∷ 1 ∷ cell t) (words q))

chosen-over : Choice D (clients order) (sheet proposed) (status ∷ [])
unfolding clients sheet of.to_fill list_of rules_computing drafts_computing
chosen-over = record {
  strings = the-status Bytes status-bytes;
  reads = the-status (λ (m : List ℕ). readable m ≡ true) refl;
  proposed = the-status (λ (m : List ℕ). to_fill D (draft_sheet (clients order)) (slot_of (message_field m)) ≡ true) refl;
  value = the-status (λ (m : List ℕ). message_text m ≡ text_of (sheet proposed) (slot_of (message_field m))) refl;
  above = the-status (λ (m : List ℕ). slot_revision (slot_in (clients order) (slot_of (message_field m))) below revision_of m) (inr (refl, omega arith));
}

module _ (b : List ℕ) (z : length b ≡ 390) where
  answered : completing D (draft order) b ≡ success (97 ∷ 31816 ∷ 7 ∷ [])
  unfolding draft of.to_fill list_of set.set_of ones rules_computing drafts_computing
  answered = answer-is D (draft order) b formed z fits paid ∙ ap (look_answer D (draft_sheet (draft order))) looked

  filled : completed D (draft order) b ≡ sheet proposed
  filled = sheet-is D (draft order) b formed z fits paid ∙ ap (look_sheet b) looked

  -- so `take_up`'s promise speaks of it, for every set that it takes up
  taken-again : (n : ℕ) (e : List ℕ) → TakesUp D (draft order) (sheet proposed) n (Ok tt) e → (c : List ℕ) → length c ≡ 390 → CompletesAgain D (in_set n) (draft order) b 97 e c
  taken-again n e T c size = T.again refl b 97 31816 7 answered filled c size

  -- and `complete`'s, with 101 "04" of the revision 5
  chosen-again : (r : Result Filled Incomplete) (t : List ℕ) → Completes D (draft order) b r t → (c : List ℕ) → length c ≡ 390 → CompletesAgain D (chosen_by (status ∷ [])) (draft order) b 97 (posted_from (draft order) (status ∷ [])) c
  chosen-again r t C c size = C.again 97 31816 7 (C.answer ∙ answered) (status ∷ []) (subst (λ (x : List ℕ). Choice D (draft order) x (status ∷ [])) (sym (C.sheet ∙ filled)) chosen) c size

  -- and `take_up` does take up 101 and 106
  taken-up : (r : Result Unit Untaken) (e : List ℕ) → TakesUp D (draft order) (sheet proposed) 2112 r e → r ≡ Ok tt
  taken-up r e T = T.made b 97 31816 7 answered filled below-greatest
