-- R-9: what the loops of `take_up` promise. A reader of its promise needs none of this.
use Rattle.std.specs.Prelude.{◌≡◌, true, false, List, ℕ, ◌+◌, ◌<◌, ◌≤◌, length, Option, Some, None}
use Rattle.sheets.specs.Sheet.{slot_count, text_max, text_of}
use Rattle.sheets.specs.declared.dates.Dates.{Dates}
use Rattle.drafts.specs.Draft.{slot_in, slot_revision, draft_formed}
use Rattle.orders.specs.TakeUp.{in_set, greatest, spared}

-- the first place of the set that is not spared; none where each is
pub record FirstUnfit (D : Dates) (d t : List ℕ) (set : ℕ) (r : Option ℕ) : Type 0 where
  pub none : r ≡ None → (i : ℕ) → i < slot_count + 1 → spared D d t set i ≡ true
  pub some : (u : ℕ) → r ≡ Some u → (u < slot_count + 1) × ((i : ℕ) → i < u → spared D d t set i ≡ true) × (spared D d t set u ≡ false)

-- each slot of the set has a revision after its own, and a text that a message takes
pub record Postable (d t : List ℕ) (set : ℕ) : Type 0 where
  pub formed : draft_formed d ≡ true
  pub slot : (i : ℕ) → i < slot_count → in_set set i ≡ true → ((slot_revision (slot_in d i)).number < greatest) × (length (text_of t i) ≤ text_max)
