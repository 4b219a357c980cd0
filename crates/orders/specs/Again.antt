-- R-9: a draft that was completed, and into which some of the proposed values were posted, is completed again.
use Rattle.std.specs.Prelude.{◌≡◌, Bool, true, not, ◌&&◌, ℕ, ◌<◌, ◌≤◌}
use mathlib.Core.List.{List, [], ◌∷◌, Memᴰ}
use Rattle.texts.specs.Texts.{any}
use Rattle.texts.specs.Answers.{success}
use Rattle.sheets.specs.Sheet.{slot_count, slot_of, text_of}
use Rattle.sheets.specs.declared.dates.Dates.{Dates}
use Rattle.drafts.specs.Revision.{◌below◌}
use Rattle.drafts.specs.Message.{message_field, revision_of, message_text, readable}
use Rattle.drafts.specs.Draft.{slot_in, slot_revision, draft_sheet}
use Rattle.drafts.specs.History.{names, AllBytes}
use Rattle.orders.specs.Fillings.{to_fill, FilledSet}
use Rattle.orders.specs.Complete.{completing, completed}

-- "post any choice of the proposed values whose slots are below the greatest revision, each with a revision above the one in its slot":
-- of the draft d, whose completion gave the sheet t, in messages of either version and party. A slot that has the greatest revision has
-- none above it. What more holds is said with it: the adviser's value may have the revision that the client gave, too
pub record Choice (D : Dates) (d t : List ℕ) (ms : List (List ℕ)) : Type 0 where
  pub strings : AllBytes ms
  pub reads : (m : List ℕ) → Memᴰ m ms → readable m ≡ true
  pub proposed : (m : List ℕ) → Memᴰ m ms → to_fill D (draft_sheet d) (slot_of (message_field m)) ≡ true
  pub value : (m : List ℕ) → Memᴰ m ms → message_text m ≡ text_of t (slot_of (message_field m))
  pub above : (m : List ℕ) → Memᴰ m ms → slot_revision (slot_in d (slot_of (message_field m))) below revision_of m

-- the slots that they name
abbrev pub chosen_by : List (List ℕ) → ℕ → Bool
chosen_by ms i = any (names i) ms

-- "the draft must then complete to the very same sheet, and its count must be no larger than before": the draft e into the buffer c
pub record CompletesAgain (D : Dates) (chosen : ℕ → Bool) (d b : List ℕ) (n : ℕ) (e c : List ℕ) : Type 0 where
  pub count : ℕ
  pub set : ℕ
  pub ones : ℕ
  pub answer : completing D e c ≡ success (count ∷ set ∷ ones ∷ [])
  pub sheet : completed D e c ≡ completed D d b
  pub less : count ≤ n
  -- the set has the slots that are to be filled: those that were, and were not chosen
  pub filled : FilledSet D (draft_sheet e) set ones
  pub lost : (i : ℕ) → i < slot_count → to_fill D (draft_sheet e) i ≡ (to_fill D (draft_sheet d) i && not (chosen i))
