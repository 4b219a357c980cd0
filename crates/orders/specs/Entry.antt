-- An entry of a field's list in completion, by its place (document 01, "Completion"; R-7).
use Rattle.std.specs.Prelude.{◌≡◌, ◌↔◌, true, false, not, List, [], ◌∷◌, ℕ, ◌<◌, ◌≤◌, eqb, length, get_or, take, Option, Some, None, Result, Ok, Err}
use Rattle.texts.specs.Quoted.{Text}
use Rattle.texts.specs.Answers.{Answer, success, refusal, Test, ◌refuses◌, answer_by}
use Rattle.sheets.specs.Sheet.{slot_count, slot_of}
use Rattle.sheets.specs.Dates.{dates_fit}
use Rattle.sheets.specs.declared.dates.Dates.{Dates}
use Rattle.orders.specs.Fillings.{list_of}
use Rattle.orders.specs.declared.entry.Row.{Row}
use Rattle.texts.specs.Refusals.{refusal_number}
use Rattle.texts.specs.declared.answers.Refusal.{Refusal}
use Rattle.texts.specs.declared.answers.Refusal.TheVariants.{UnknownField, Undated}

-- the list of field f at the dates D: no entry for a field that has no list, or is not listed
abbrev pub list_for : Dates → ℕ → List Text
list_for D f = list_of D (slot_of f)

-- "an order date or record entry that is no Gregorian date ..", "field not listed"
unfoldable pub entry_tests : Dates → ℕ → List Test
entry_tests D f = (not (dates_fit D) refuses 12) ∷ (eqb (slot_of f) slot_count refuses 4) ∷ []

-- entry k of the list, as its bytes; none past the end
unfoldable pub listing : Dates → ℕ → ℕ → Answer
listing D f k = answer_by (entry_tests D f) (get_or (list_for D f) k [])

-- a text of at most two bytes, and what the code returns for it: 0 where there is no byte
abbrev pub row_text : Row → Text
row_text r = take r.length (r.first ∷ r.second ∷ [])

abbrev pub text_row : Text → Row
text_row t = record { length = length t; first = get_or t 0 0; second = get_or t 1 0 }

-- document 01's number and values for each case
unfoldable pub entry_answer : Result (Option Row) Refusal → Answer
entry_answer (Ok (Some r)) = success (row_text r)
entry_answer (Ok None) = success []
entry_answer (Err n) = refusal (refusal_number n) []

-- the promise of `entry`: of field f, place k and the dates D it answered x
pub record Lists (D : Dates) (f k : ℕ) (x : Result (Option Row) Refusal) : Type 0 where
  pub answer : entry_answer x ≡ listing D f k
  -- an entry is the one at this place of the list
  pub entry : (r : Row) → x ≡ Ok (Some r) → (k < length (list_for D f)) × (r ≡ text_row (get_or (list_for D f) k []))
  -- there is none where the list has ended
  pub nothing : x ≡ Ok None → length (list_for D f) ≤ k
  -- 12 exactly if the dates are not fit; 4 exactly if they are, and the field is not listed
  pub undated : (x ≡ Err Undated) ↔ (dates_fit D ≡ false)
  pub unlisted : (x ≡ Err UnknownField) ↔ ((dates_fit D ≡ true) × (slot_of f ≡ slot_count))
