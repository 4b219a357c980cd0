-- The list of postings (document 01, "Draft and sheet"; the first half of demand 3). What a slot ends with is said without
-- posting.
use Rattle.std.specs.Prelude.{◌≡◌, Bool, true, false, cond, ◌&&◌, ℕ, ◌<◌, max, eqb, length, get_or, replicate}
use mathlib.Core.List.{List, [], ◌∷◌, ◌++◌, Memᴰ}
use Rattle.texts.specs.Numbers.{Bytes}
use Rattle.sheets.specs.Sheet.{slot_of}
use Rattle.drafts.specs.Revision.{◌below◌}
use Rattle.drafts.specs.Message.{party_of, message_field, revision_of, message_text, readable}
use Rattle.drafts.specs.Draft.{slot_size, rank_of, slot_with, fresh_draft, posted_to}

-- "The first posting gets a fresh draft, each later one the draft as the posting before left it"
abbrev pub posted_from : List ℕ → List (List ℕ) → List ℕ
posted_from d [] = d
posted_from d (m ∷ ms) = posted_from (posted_to d m) ms

unfoldable pub posted_all : List (List ℕ) → List ℕ
posted_all ms = posted_from fresh_draft ms

-- m is readable and names the field of slot i
unfoldable pub names : ℕ → List ℕ → Bool
names i m = readable m && eqb (slot_of (message_field m)) i

-- the rank of m in slot i; 0, which no readable message has, where m does not name its field
unfoldable pub rank_in : ℕ → List ℕ → ℕ
rank_in i m = cond (names i m) (rank_of m) 0

-- the highest rank, "by revision, then party", among the readable messages that name its field
abbrev pub highest : ℕ → List (List ℕ) → ℕ
highest i [] = 0
highest i (m ∷ ms) = max (rank_in i m) (highest i ms)

-- "the first in the list among equals"
abbrev pub first_of : ℕ → ℕ → List (List ℕ) → List ℕ
first_of i r [] = []
first_of i r (m ∷ ms) = cond (eqb (rank_in i m) r) m (first_of i r ms)

-- "it is all zero if none names the field"
unfoldable pub empty_slot : List ℕ
empty_slot = replicate slot_size 0

-- "each slot ends with the revision, party and text of the readable message for its field that is greatest by revision, then party, the
-- first in the list among equals"
unfoldable pub end_slot : ℕ → List (List ℕ) → List ℕ
end_slot i ms = cond (eqb (highest i ms) 0) empty_slot (slot_with (first_of i (highest i ms) ms))

-- the same with no function: none names the field of slot i and the slot is all zero; or m stands in the list and names it,
-- every earlier one that names it is below it by revision, then party, and it is below no later one, and the slot holds m's revision,
-- party and text
pub data Ends (i : ℕ) (ms : List (List ℕ)) (slot : List ℕ) : Type 0 where
  none : ((a : List ℕ) → Memᴰ a ms → names i a ≡ false) → slot ≡ empty_slot → Ends i ms slot
  won :
      (before after : List (List ℕ))
      (m : List ℕ)
      → ms ≡ before ++ m ∷ after
      → names i m ≡ true
      → ((a : List ℕ) → Memᴰ a before → names i a ≡ true → revision_of a below revision_of m)
      → ((a : List ℕ) → Memᴰ a after → names i a ≡ true → revision_of m below revision_of a → ⊥)
      → slot ≡ slot_with m
      → Ends i ms slot

-- every message of a list is a byte string
abbrev pub AllBytes : List (List ℕ) → Type 0
AllBytes ms = (m : List ℕ) → Memᴰ m ms → Bytes m

-- "the premise on the list: same field, revision and party, same text"
abbrev pub NoClash : List (List ℕ) → Type 0
NoClash ms =
    (a b : List ℕ)
    → Memᴰ a ms
    → Memᴰ b ms
    → readable a ≡ true
    → readable b ≡ true
    → message_field a ≡ message_field b
    → revision_of a ≡ revision_of b
    → message_text a ≡ message_text b

-- no two places of a list hold readable messages of the same field, revision and party
abbrev pub Distinct : List (List ℕ) → Type 0
Distinct ms =
    (i j : ℕ)
    → i < j
    → j < length ms
    → readable (get_or ms i []) ≡ true
    → readable (get_or ms j []) ≡ true
    → message_field (get_or ms i []) ≡ message_field (get_or ms j [])
    → revision_of (get_or ms i []) ≡ revision_of (get_or ms j [])
    → ⊥

-- the messages of a list that a test passes, in their order
abbrev pub those : (List ℕ → Bool) → List (List ℕ) → List (List ℕ)
those t [] = []
those t (m ∷ ms) = cond (t m) (m ∷ those t ms) (those t ms)

-- m is a readable message of the party p
unfoldable pub is_of : ℕ → List ℕ → Bool
is_of p m = readable m && eqb (party_of m) p

-- "A field that only one party wrote": all that name the field of slot i are of the party p
abbrev pub WroteAlone : ℕ → ℕ → List (List ℕ) → Type 0
WroteAlone p i ms = (a : List ℕ) → Memᴰ a ms → names i a ≡ true → party_of a ≡ p
