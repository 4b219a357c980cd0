-- What completion answers, and what it leaves in the sheet buffer (document 01, "Completion", "Answers other than success").
use Rattle.std.specs.Prelude.{Bool, true, false, not, ◌&&◌, List, [], ◌∷◌, ◌++◌, ℕ, eqb, length, Result, Ok, Err}
use Rattle.std.specs.Int.Count.{ones}
use Rattle.texts.specs.Texts.{every}
use Rattle.texts.specs.Refusals.{refusal_number}
use Rattle.texts.specs.Answers.{Answer, success, refusal, Test, ◌refuses◌, ◌refuses◌with◌, answer_by, buffer_by}
use Rattle.sheets.specs.Sheet.{sheet_size}
use Rattle.sheets.specs.Dates.{dates_fit}
use Rattle.sheets.specs.declared.dates.Dates.{Dates}
use Rattle.rules.specs.Rules.{budget, rules, basic, keeps, first_broken}
use Rattle.rules.specs.Verdicts.{broken_rule}
use Rattle.drafts.specs.Draft.{draft_formed, draft_sheet}
use Rattle.fillings.specs.Fillings.{Look, found, none}
use Rattle.orders.specs.Fillings.{first_filling, set_of}
use Rattle.orders.specs.declared.complete.Filled.{Filled}
use Rattle.orders.specs.declared.complete.Incomplete.{Incomplete}
use Rattle.orders.specs.declared.complete.Incomplete.TheVariants.{Impossible, Broken, Refused}

-- "With 1 to 3 kept, a sheet has a class"; "A budget payment is a sheet of class A or B"
unfoldable pub budget_payment : Dates → List ℕ → Bool
budget_payment D s = every (keeps D s) basic && budget s

-- document 01's number and values for each case
unfoldable pub complete_answer : Result Filled Incomplete → Answer
complete_answer (Ok f) = success (f.count ∷ f.set ∷ f.ones ∷ [])
complete_answer (Err (Impossible n)) = refusal 10 (n ∷ [])
complete_answer (Err (Broken f r)) = refusal 8 (f.0 ∷ r.0 ∷ [])
complete_answer (Err (Refused n)) = refusal (refusal_number n) []

-- what looking through the fillings found: whether none keeps the rules, the count of those looked at, and the sheet found, or b where there is none
abbrev pub nothing : Look (List ℕ) → Bool
nothing (found n f) = false
nothing (none n) = true

abbrev pub counted : Look (List ℕ) → ℕ
counted (found n f) = n
counted (none n) = n

abbrev pub sheet_in : List ℕ → Look (List ℕ) → List ℕ
sheet_in b (found n f) = f
sheet_in b (none n) = b

-- of the draft's sheet s: "a broken rule; in completion only 1 to 3", "completion of class O"
abbrev pub unpaid_tests : Dates → List ℕ → List Test
unpaid_tests D s =
    broken_rule rules (first_broken D s basic) s
    ∷ (not (budget s) refuses 9)
    ∷ []

-- and "no filling keeps the rules"
unfoldable pub sheet_tests : Dates → List ℕ → List Test
sheet_tests D s = unpaid_tests D s ++ ((nothing (first_filling D s) refuses 10 with (counted (first_filling D s) ∷ [])) ∷ [])

-- "draft or sheet malformed", "output: a sheet not of 390", 12 "just before 8", and these
unfoldable pub complete_tests : Dates → List ℕ → List ℕ → List Test
complete_tests D d b = (not (draft_formed d) refuses 1) ∷ (not (eqb (length b) sheet_size) refuses 7) ∷ (not (dates_fit D) refuses 12) ∷ sheet_tests D (draft_sheet d)

-- completing the draft d into the buffer b: "the first filling that keeps all rules, the count of fillings up to and including it, a
-- 16-bit set of the filled slots, and how many bits are set"
unfoldable pub completing : Dates → List ℕ → List ℕ → Answer
completing D d b = answer_by (complete_tests D d b) (counted (first_filling D (draft_sheet d)) ∷ set_of D (draft_sheet d) ∷ ones (set_of D (draft_sheet d)) ∷ [])

unfoldable pub completed : Dates → List ℕ → List ℕ → List ℕ
completed D d b = buffer_by (complete_tests D d b) (sheet_in b (first_filling D (draft_sheet d))) b
