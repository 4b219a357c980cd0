-- An entry of a field's list, as the numbers that a caller in C reads, and what the contract promises.
use Rattle.std.specs.Prelude.{◌≡◌, List, [], ◌∷◌, ℕ, length, get_or, take, Option, Some, None, Result, Ok, Err}
use Rattle.texts.specs.Answers.{Answer, success, refusal}
use Rattle.sheets.specs.declared.dates.Dates.{Dates}
use Rattle.texts.specs.Refusals.{refusal_number}
use Rattle.texts.specs.declared.answers.Refusal.{Refusal}
use Rattle.orders.specs.declared.entry.Row.{Row}
use Rattle.orders.specs.Entry.{listing}
use Rattle.capi.specs.Numbers.{numbered}
use Rattle.capi.specs.declared.Entry.{Entry}

-- how many bytes the entry has, and the bytes; 0 where there is none
unfoldable pub entry_numbers : Answer → Entry
entry_numbers (success t) = record { number = 0; length = length t; first = get_or t 0 0; second = get_or t 1 0 }
entry_numbers (refusal n vs) = record { number = n; length = 0; first = 0; second = 0 }

-- the numbers of what `entry` answers: the row of an entry
abbrev pub row_numbers : Result (Option Row) Refusal → Entry
row_numbers (Ok (Some r)) = record { number = 0; length = r.length; first = r.first; second = r.second }
row_numbers (Ok None) = record { number = 0; length = 0; first = 0; second = 0 }
row_numbers (Err n) = record { number = refusal_number n; length = 0; first = 0; second = 0 }

-- the bytes are the first `length` of the two
unfoldable pub entry_of : Entry → Answer
entry_of r = numbered r.number (take r.length (r.first ∷ r.second ∷ [])) []

-- asking for entry k of the list of field f at the dates D returned r
pub record EntryReturns (D : Dates) (f k : ℕ) (r : Entry) : Type 0 where
  pub numbers : r ≡ entry_numbers (listing D f k)
  pub answer : entry_of r ≡ listing D f k
  -- an entry of one byte, and one of two; none
  pub one : (a : ℕ) → listing D f k ≡ success (a ∷ []) → r ≡ record { number = 0; length = 1; first = a; second = 0 }
  pub two : (a b : ℕ) → listing D f k ≡ success (a ∷ b ∷ []) → r ≡ record { number = 0; length = 2; first = a; second = b }
  pub nothing : listing D f k ≡ success [] → r ≡ record { number = 0; length = 0; first = 0; second = 0 }
  pub refused : (n : ℕ) (vs : List ℕ) → listing D f k ≡ refusal n vs → r ≡ record { number = n; length = 0; first = 0; second = 0 }
