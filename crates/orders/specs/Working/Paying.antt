-- Whether a sheet is a budget payment, as the code asks it. A reader of the promise needs none of this.
use Rattle.std.specs.Prelude.{◌≡◌, true, false, List, ℕ, length, Result, Ok, Err}
use Rattle.texts.specs.declared.answers.Refusal.TheVariants.{NotBudget}
use Rattle.sheets.specs.Sheet.{Sheet, sheet_size}
use Rattle.sheets.specs.Dates.{dates_fit}
use Rattle.sheets.specs.Working.Facts.{Read}
use Rattle.sheets.specs.declared.dates.Dates.{Dates}
use Rattle.sheets.specs.declared.facts.Facts.{Facts}
use Rattle.rules.specs.Rules.{budget, rules, basic, field_of, first_broken}
use Rattle.drafts.specs.Draft.{draft_formed, draft_sheet}
use Rattle.orders.specs.Skipping.{Quickens}
use Rattle.orders.specs.Working.Entering.{base_of}
use Rattle.orders.specs.Working.Search.{Payment}
use Rattle.orders.specs.declared.complete.Incomplete.{Incomplete}
use Rattle.orders.specs.declared.complete.Incomplete.TheVariants.{Broken as of_broken, Refused as of_refused}
use Rattle.rules.specs.declared.check.Rejection.{Rejection}
use Rattle.rules.specs.declared.check.Rejection.TheVariants.{Broken, Refused}

-- a sheet that is no budget payment can't be completed
abbrev pub incomplete_by : Rejection → Incomplete
incomplete_by (Broken f r) = of_broken f r
incomplete_by (Refused n) = of_refused n

-- of the sheet s: its facts, the first of rules 1 to 3 that is broken with its field, or 9
abbrev pub PaysBy : Dates → Sheet → Result Facts Rejection → Type 0
PaysBy D s (Ok x) = Read D x s × (first_broken D s basic ≡ 0) × (budget s ≡ true)
PaysBy D s (Err (Broken f r)) = (r.0 ≡ 0 → ⊥) × (first_broken D s basic ≡ r.0) × (f.0 ≡ field_of rules r.0 s)
PaysBy D s (Err (Refused n)) = (n ≡ NotBudget) × (first_broken D s basic ≡ 0) × (budget s ≡ false)

abbrev pub Pays : Dates → Sheet → Result Facts Rejection → Type 0
Pays D s r = length s ≡ sheet_size → PaysBy D s r

-- the draft d can be completed into a buffer of n bytes: u is the base of its sheet, and x are the facts of that
pub record Payable (D : Dates) (d : List ℕ) (n : ℕ) (x : Facts) (u : List ℕ) : Type 0 where
  pub formed : draft_formed d ≡ true
  pub sized : n ≡ sheet_size
  pub fit : dates_fit D ≡ true
  pub base : u ≡ base_of (draft_sheet d)
  pub payment : Payment D x (base_of (draft_sheet d))

-- or why it is not completed into any such buffer
abbrev pub Ready : Dates → List ℕ → ℕ → Result Facts Incomplete → List ℕ → Type 0
Ready D d n (Ok x) u = Payable D d n x u
Ready D d n (Err e) u = (b : List ℕ) → length b ≡ n → Quickens D d b (record { completed = Err e; skipped = 0 }) b
