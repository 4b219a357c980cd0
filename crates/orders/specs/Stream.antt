-- The messages of an input (document 01, "Writer and program"), and demand 3 of posting them and completing.
use Rattle.std.specs.Prelude.{◌≡◌, ◌↔◌, Bool, true, false, cond, List, [], ◌∷◌, ◌++◌, ℕ, zero, suc, ◌+◌, ◌<◌, eqb, length, take, drop, Result, Ok}
use Rattle.texts.specs.Answers.{refusal, number_of}
use Rattle.sheets.specs.Sheet.{sheet_size}
use Rattle.sheets.specs.Dates.{dates_fit}
use Rattle.sheets.specs.declared.dates.Dates.{Dates}
use Rattle.drafts.specs.Message.{length_of, reading_of}
use Rattle.drafts.specs.History.{posted_all}
use Rattle.orders.specs.Complete.{completing, completed, complete_answer}
use Rattle.orders.specs.Whole.{Whole}
use Rattle.orders.specs.declared.complete.Filled.{Filled}
use Rattle.orders.specs.declared.complete.Incomplete.{Incomplete}

-- the first message: "2 + L bytes or what is left if that is less"
unfoldable pub piece_of : List ℕ → List ℕ
piece_of s = take (length_of s + 2) s

-- "After a 2 it stops reading"
unfoldable pub ends_stream : List ℕ → Bool
ends_stream m = eqb (number_of (reading_of m)) 2

-- "messages end to end": at most n of them, and none after one that ends the stream
unfoldable pub pieces : ℕ → List ℕ → List (List ℕ)
pieces zero s = []
pieces (suc n) s =
    cond (eqb (length s) 0) [] (piece_of s ∷ cond (ends_stream (piece_of s)) [] (pieces n (drop (length (piece_of s)) s)))

-- each has a byte at least, so that there are no more of them than bytes
unfoldable pub messages_of : List ℕ → List (List ℕ)
messages_of i = pieces (length i) i

-- the messages of an input, with no function: an empty one has none; otherwise m is the first, "2 + L bytes or what is left if that is
-- less". "After a 2 it stops reading": m is the only one where reading it is refused with 2, and where it is not, those of the rest follow
pub data Parted : List ℕ → List (List ℕ) → Type 0 where
  finished : Parted [] []
  stops : (i m rest : List ℕ) → i ≡ m ++ rest → 0 < length m → m ≡ take (length_of i + 2) i → reading_of m ≡ refusal 2 [] → Parted i (m ∷ [])
  goes_on :
      (i m rest : List ℕ)
      (ms : List (List ℕ))
      → i ≡ m ++ rest
      → 0 < length m
      → m ≡ take (length_of i + 2) i
      → (reading_of m ≡ refusal 2 [] → ⊥)
      → Parted rest ms
      → Parted i (m ∷ ms)

-- the promise of `complete_stream`: posting the messages of i to a fresh draft, and completing that into a buffer that held b,
-- returned r and left t
pub record Streams (D : Dates) (i b : List ℕ) (r : Result Filled Incomplete) (t : List ℕ) : Type 0 where
  pub answer : complete_answer r ≡ completing D (posted_all (messages_of i)) b
  pub sheet : t ≡ completed D (posted_all (messages_of i)) b
  -- "A refused call changes none of them"; "output: a sheet not of 390"
  pub refused : ((f : Filled) → r ≡ Ok f → ⊥) → t ≡ b
  pub sized : (number_of (complete_answer r) ≡ 7) ↔ (length b ≡ sheet_size → ⊥)
  pub undated : length b ≡ sheet_size → (number_of (complete_answer r) ≡ 12) ↔ (dates_fit D ≡ false)
  -- what the messages are: the stream ends after a 2, and goes on after every other answer
  pub ends : (m : List ℕ) → (ends_stream m ≡ true) ↔ (reading_of m ≡ refusal 2 [])
  pub parted : Parted i (messages_of i)
  -- demand 3, of this list of messages
  pub whole : Whole D (messages_of i) (posted_all (messages_of i)) b (complete_answer r) t
