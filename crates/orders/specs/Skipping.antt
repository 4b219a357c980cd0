-- R-14: how many statuses the quick search passes over whole, said without a search; and the promise of that search.
use Rattle.std.specs.Prelude.{◌≡◌, ◌↔◌, Bool, true, not, ◌&&◌, ℕ, suc, length, take, Ok, Err}
use mathlib.Core.List.{List, [], ◌∷◌, ◌++◌, Memᴰ}
use Rattle.texts.specs.Texts.{every, any, same}
use Rattle.texts.specs.Answers.{Answer, success, refusal}
use Rattle.sheets.specs.Sheet.{Sheet, sheet_size, cell_of}
use Rattle.sheets.specs.declared.dates.Dates.{Dates}
use Rattle.rules.specs.Rules.{budget, keeps}
use Rattle.drafts.specs.Draft.{draft_sheet}
use Rattle.fillings.specs.Fillings as of
use Rattle.fillings.specs.Fillings.{Look, found, none, entry_place, distinct}
use Rattle.fillings.specs.Filled.{tally}
use Rattle.orders.specs.Fillings.{list_of, Filling, fillings, first_filling}
use Rattle.orders.specs.Complete.{complete_answer, completing}
use Rattle.orders.specs.Whole.{Completes}
use Rattle.orders.specs.Pretest.{broken_by_all}
use Rattle.orders.specs.declared.complete.Filled.{Filled}
use Rattle.orders.specs.declared.complete.Incomplete.TheVariants.{Impossible}
use Rattle.orders.specs.declared.quick.Quickened.{Quickened}

-- "a rule that reads neither 106, 108 nor 109 (5, 7 to 14, 16, 19 to 24, 27, 28, 30)"
abbrev pub quick_rules : List ℕ
quick_rules = 5 ∷ 7 ∷ 8 ∷ 9 ∷ 10 ∷ 11 ∷ 12 ∷ 13 ∷ 14 ∷ 16 ∷ 19 ∷ 20 ∷ 21 ∷ 22 ∷ 23 ∷ 24 ∷ 27 ∷ 28 ∷ 30 ∷ []

-- the slot of 101, and what it holds in the fillings of s, in the list's order: "a given 101 is the only one"
abbrev pub status_slot : ℕ
status_slot = 6

abbrev pub statuses_of : Dates → Sheet → List (List ℕ)
statuses_of D s = of.choices (list_of D) s status_slot

-- "such a rule fails" for the status x: a filling that has it breaks one of these rules (and so does each that has it: `AreSkipped.alike`)
unfoldable pub fails : Dates → Sheet → List ℕ → Bool
fails D s x = any (λ (f : Sheet). same (cell_of f status_slot) x && not (every (keeps D f) quick_rules)) (fillings D s)

-- "of those up to the sheet's, with 10 of all"
abbrev pub up_to : List (List ℕ) → Look Sheet → List (List ℕ)
up_to xs (found n t) = take (suc (entry_place xs (cell_of t status_slot))) xs
up_to xs (none n) = xs

-- "exactly those for which such a rule fails"
unfoldable pub skipped_of : Dates → Sheet → ℕ
skipped_of D s = tally (fails D s) (up_to (statuses_of D s) (first_filling D s))

-- the same said without counting: the list has each skipped status once
pub record AreSkipped (D : Dates) (s : Sheet) (n : ℕ) : Type 0 where
  pub list : List (List ℕ)
  pub count : n ≡ length list
  pub holds : (x : List ℕ) → Memᴰ x list ↔ (Memᴰ x (up_to (statuses_of D s) (first_filling D s)) × (fails D s x ≡ true))
  pub once : distinct list ≡ true
  -- one of these rules fails in a filling of a status exactly if one fails in each, so that none that keeps the rules is passed over
  pub alike : length s ≡ sheet_size → (f : Sheet) → Filling D s f → not (every (keeps D f) quick_rules) ≡ fails D s (cell_of f status_slot)
  -- where the test ahead names a rule (R-3), every status is skipped
  pub caught :
      length s ≡ sheet_size
      → budget s ≡ true
      → (broken_by_all D s ≡ 0 → ⊥)
      → ((x : List ℕ) → Memᴰ x (statuses_of D s) → fails D s x ≡ true) × (n ≡ length (statuses_of D s))

-- an answer with k behind its values: beside a sheet, and beside 10, the one refusal that has a single value, the count
unfoldable pub with_skipped : ℕ → Answer → Answer
with_skipped k (success vs) = success (vs ++ (k ∷ []))
with_skipped k (refusal n []) = refusal n []
with_skipped k (refusal n (c ∷ [])) = refusal n (c ∷ k ∷ [])
with_skipped k (refusal n (f ∷ r ∷ vs)) = refusal n (f ∷ r ∷ vs)

-- "For every draft, date and record it gives the sheet, count, set and refusal of the search already there .. With a sheet or 10 it also
-- returns how many statuses it skipped"
unfoldable pub quickening : Dates → List ℕ → List ℕ → Answer
quickening D d b = with_skipped (skipped_of D (draft_sheet d)) (completing D d b)

unfoldable pub quick_answer : Quickened → Answer
quick_answer r = with_skipped r.skipped (complete_answer r.completed)

-- the promise of `quick`, at the dates D: completing d into a buffer that held b returned r and left t
pub record Quickens (D : Dates) (d b : List ℕ) (r : Quickened) (t : List ℕ) : Type 0 where
  pub answer : quick_answer r ≡ quickening D d b
  -- "it gives the sheet, count, set and refusal of the search already there": all that `complete` promises, the equations with
  -- `completing` and `completed` among it
  pub completes : Completes D d b r.completed t
  -- "With a sheet or 10 it also returns how many statuses it skipped"
  pub filled : (f : Filled) → r.completed ≡ Ok f → r.skipped ≡ skipped_of D (draft_sheet d)
  pub impossible : (n : ℕ) → r.completed ≡ Err (Impossible n) → r.skipped ≡ skipped_of D (draft_sheet d)
  pub others : ((f : Filled) → r.completed ≡ Ok f → ⊥) → ((n : ℕ) → r.completed ≡ Err (Impossible n) → ⊥) → r.skipped ≡ 0
  -- "exactly those for which such a rule fails"
  pub exactly : AreSkipped D (draft_sheet d) (skipped_of D (draft_sheet d))
