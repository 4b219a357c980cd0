-- Demand 3, entire: one claim about a list of messages, the draft that posting them leaves, and completing that draft.
use Rattle.std.specs.Prelude.{◌≡◌, ◌↔◌, true, false, List, [], ◌∷◌, ◌++◌, ℕ, length, get_or, Result, Ok}
use Rattle.texts.specs.Texts.{every}
use Rattle.texts.specs.Numbers.{Bytes}
use Rattle.texts.specs.Answers.{Answer, success, refusal, number_of}
use Rattle.sheets.specs.Sheet.{sheet_size}
use Rattle.sheets.specs.Dates.{dates_fit}
use Rattle.sheets.specs.declared.dates.Dates.{Dates}
use Rattle.rules.specs.Rules.{class_of, rules, basic, field_of, keeps, keeps_all}
use Rattle.rules.specs.declared.class.Class.TheVariants.{O}
use Rattle.drafts.specs.Draft.{draft_formed, draft_sheet}
use Rattle.drafts.specs.History.{posted_from}
use Rattle.drafts.specs.Promises.{Postings, Held}
use Rattle.orders.specs.Fillings.{Filling, FirstFilling, All, FilledSet}
use Rattle.orders.specs.Again.{Choice, chosen_by, CompletesAgain}
use Rattle.orders.specs.Complete.{budget_payment, completing, completed, complete_answer}
use Rattle.orders.specs.declared.complete.Filled.{Filled}
use Rattle.orders.specs.declared.complete.Incomplete.{Incomplete}

-- the first value of an answer, the count
abbrev pub count_of : Answer → ℕ
count_of (success vs) = get_or vs 0 0
count_of (refusal n vs) = get_or vs 0 0

-- why a draft that is no budget payment is refused, s being its sheet: one of rules 1 to 3 is broken, and the answer names the first of
-- these and its field; or they are kept, and the class is O
pub data Unpaid (D : Dates) (s : List ℕ) : Answer → Type 0 where
  broken :
      (before after : List ℕ)
      (n : ℕ)
      → basic ≡ before ++ (n ∷ after)
      → every (keeps D s) before ≡ true
      → keeps D s n ≡ false
      → Unpaid D s (refusal 8 (field_of rules n s ∷ n ∷ []))
  ordinary : every (keeps D s) basic ≡ true → class_of s ≡ O → Unpaid D s (refusal 9 [])

-- at the dates D: posting ms one after another from a fresh draft left d; completing d into a buffer that held b answered a and left t
pub record Whole (D : Dates) (ms : List (List ℕ)) (d b : List ℕ) (a : Answer) (t : List ℕ) : Type 0 where
  -- each slot ends with the message that demand 3 names, and every arrangement ends in the same draft
  pub held : Held ms d
  -- "Whenever that draft is a budget payment, completing it into a sheet buffer of the right size is refused (10) exactly when no
  -- filling of its blanks keeps all the rules"
  pub refused :
      length b ≡ sheet_size
      → dates_fit D ≡ true
      → budget_payment D (draft_sheet d) ≡ true
      → (number_of a ≡ 10) ↔ ((f : List ℕ) → Filling D (draft_sheet d) f → keeps_all D f ≡ false)
  -- "number, count of all fillings"
  pub all : length b ≡ sheet_size → dates_fit D ≡ true → budget_payment D (draft_sheet d) ≡ true → number_of a ≡ 10 → (a ≡ refusal 10 (count_of a ∷ [])) × All D (draft_sheet d) (count_of a)
  -- "else the sheet returned is a filling that keeps them .."
  pub filled : length b ≡ sheet_size → dates_fit D ≡ true → budget_payment D (draft_sheet d) ≡ true → (number_of a ≡ 10 → ⊥) → FirstFilling D (draft_sheet d) t (count_of a)
  -- and the answer is a success with that count, the set of the filled slots and how many they are
  pub answered :
      length b ≡ sheet_size
      → dates_fit D ≡ true
      → budget_payment D (draft_sheet d) ≡ true
      → (number_of a ≡ 10 → ⊥)
      → (set : ℕ) × (k : ℕ) × (a ≡ success (count_of a ∷ set ∷ k ∷ [])) × FilledSet D (draft_sheet d) set k
  -- a draft that is no budget payment is refused with 8 or 9
  pub unpaid : length b ≡ sheet_size → dates_fit D ≡ true → budget_payment D (draft_sheet d) ≡ false → Unpaid D (draft_sheet d) a

-- the promise of `complete`: completing d into a buffer that held b returned r and left t
pub record Completes (D : Dates) (d b : List ℕ) (r : Result Filled Incomplete) (t : List ℕ) : Type 0 where
  pub answer : complete_answer r ≡ completing D d b
  pub sheet : t ≡ completed D d b
  -- "A refused call changes none of them"
  pub refused : ((f : Filled) → r ≡ Ok f → ⊥) → t ≡ b
  -- "draft or sheet malformed"; "output: a sheet not of 390"
  pub malformed : (number_of (complete_answer r) ≡ 1) ↔ (draft_formed d ≡ false)
  pub sized : draft_formed d ≡ true → (number_of (complete_answer r) ≡ 7) ↔ (length b ≡ sheet_size → ⊥)
  -- "the rest answer 12"
  pub undated : draft_formed d ≡ true → length b ≡ sheet_size → (number_of (complete_answer r) ≡ 12) ↔ (dates_fit D ≡ false)
  pub whole : (ms : List (List ℕ)) → Postings ms d → Whole D ms d b (complete_answer r) t
  -- and so of every well-formed draft, wherever it came from: it is what the postings of some messages leave
  pub reached : Bytes d → draft_formed d ≡ true → (ms : List (List ℕ)) × Postings ms d × Whole D ms d b (complete_answer r) t
  -- R-9: where it returned a sheet, any choice of the proposed values may be posted, and the draft completed again
  pub again :
      (n set k : ℕ)
      → complete_answer r ≡ success (n ∷ set ∷ k ∷ [])
      → (ms : List (List ℕ))
      → Choice D d t ms
      → (c : List ℕ)
      → length c ≡ sheet_size
      → CompletesAgain D (chosen_by ms) d b n (posted_from d ms) c
