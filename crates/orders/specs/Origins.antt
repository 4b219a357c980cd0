-- Of an input of messages: which of them each slot holds after all of them were posted to a fresh draft.
use Rattle.std.specs.Prelude.{◌≡◌, true, false, cond, ℕ, suc, ◌<◌, eqb, length, get_or}
use mathlib.Core.List.{List, [], ◌∷◌, ◌++◌, map, Memᴰ}
use Rattle.sheets.specs.Sheet.{slots, slot_count}
use Rattle.drafts.specs.Revision.{◌below◌}
use Rattle.drafts.specs.Message.{revision_of}
use Rattle.drafts.specs.Draft.{slot_in, slot_with}
use Rattle.drafts.specs.History.{posted_all, names, rank_in, highest, empty_slot}
use Rattle.orders.specs.Stream.{messages_of}

-- the number, from 1, of "the first in the list among equals" that have the rank r in slot i
abbrev pub number_in : ℕ → ℕ → List (List ℕ) → ℕ
number_in i r [] = 0
number_in i r (m ∷ ms) = cond (eqb (rank_in i m) r) 1 (suc (number_in i r ms))

-- the number of "the readable message for its field that is greatest by revision, then party, the first in the list among equals", whose
-- revision, party and text slot i ends with; 0 if none names the field
unfoldable pub origin_of : List (List ℕ) → ℕ → ℕ
origin_of ms i = cond (eqb (highest i ms) 0) 0 (number_in i (highest i ms) ms)

-- the same with no function: none names the field of slot i, and the number is 0; or m stands in the list with n - 1 before it and names
-- it, every earlier one that names it is below it by revision, then party, and it is below no later one; and the slot of the draft that all
-- of them leave is empty, or holds m's revision, party and text
pub data Origin (i : ℕ) (ms : List (List ℕ)) (n : ℕ) : Type 0 where
  none : ((a : List ℕ) → Memᴰ a ms → names i a ≡ false) → slot_in (posted_all ms) i ≡ empty_slot → n ≡ 0 → Origin i ms n
  given :
      (before after : List (List ℕ))
      (m : List ℕ)
      → ms ≡ before ++ m ∷ after
      → names i m ≡ true
      → ((a : List ℕ) → Memᴰ a before → names i a ≡ true → revision_of a below revision_of m)
      → ((a : List ℕ) → Memᴰ a after → names i a ≡ true → revision_of m below revision_of a → ⊥)
      → slot_in (posted_all ms) i ≡ slot_with m
      → n ≡ suc (length before)
      → Origin i ms n

-- the promise of `origins`: of the input t it returned ns, a number for each slot
pub record Origins (t ns : List ℕ) : Type 0 where
  pub places : ns ≡ map (origin_of (messages_of t)) slots
  pub each : (i : ℕ) → i < slot_count → Origin i (messages_of t) (get_or ns i 0)
