-- R-3: a test of the draft ahead of the search, said of its fillings, and what it promises.
use Rattle.std.specs.Prelude.{◌≡◌, ◌↔◌, Bool, true, false, not, ◌&&◌, List, [], ◌∷◌, ◌++◌, ℕ, length, get_or, Option, Some, None, Result, Ok, Err}
use Rattle.texts.specs.Texts.{every}
use Rattle.texts.specs.Refusals.{refusal_number}
use Rattle.texts.specs.declared.answers.Refusal.{Refusal}
use Rattle.texts.specs.Answers.{Answer, success, refusal, number_of, Test, ◌refuses◌, answer_by}
use Rattle.sheets.specs.Sheet.{Sheet, sheet_size}
use Rattle.sheets.specs.declared.sheet.Field.{Field}
use Rattle.sheets.specs.Dates.{dates_fit}
use Rattle.sheets.specs.declared.dates.Dates.{Dates}
use Rattle.rules.specs.Rules.{rules, field_of, keeps, first_not, ahead}
use Rattle.rules.specs.declared.rules.RuleNumber.{RuleNumber}
use Rattle.drafts.specs.Draft.{draft_formed, draft_sheet}
use Rattle.orders.specs.Fillings.{Filling, fillings, All}
use Rattle.orders.specs.Complete.{budget_payment, unpaid_tests, completing}
use Rattle.orders.specs.declared.pretest.Named.{Named}
use Rattle.rules.specs.declared.check.Rejection.{Rejection}
use Rattle.rules.specs.declared.check.Rejection.TheVariants.{Broken, Refused}

-- no sheet of a list keeps rule n
unfoldable pub none_keeps : Dates → List Sheet → ℕ → Bool
none_keeps D [] n = true
none_keeps D (f ∷ fs) n = not (keeps D f n) && none_keeps D fs n

-- "the first of rules 5 to 9, 11 to 14, 16, 22 and 28 that all fillings break", 0 where there is none
unfoldable pub broken_by_all : Dates → Sheet → ℕ
broken_by_all D s = first_not (λ (n : ℕ). not (none_keeps D (fillings D s) n)) ahead

-- "with its field": the one that the first filling names
unfoldable pub named_field : Dates → Sheet → ℕ
named_field D s = field_of rules (broken_by_all D s) (get_or (fillings D s) 0 [])

-- the paper's number and values for each case: the field and the rule, or 0 and 0
unfoldable pub pretest_answer : Result (Option Named) Rejection → Answer
pretest_answer (Ok (Some m)) = success (m.field.0 ∷ m.rule.0 ∷ [])
pretest_answer (Ok None) = success (0 ∷ 0 ∷ [])
pretest_answer (Err (Broken f r)) = refusal 8 (f.0 ∷ r.0 ∷ [])
pretest_answer (Err (Refused n)) = refusal (refusal_number n) []

-- "The test refuses with 1, 8 and 9 as completion does"
unfoldable pub pretest_tests : Dates → List ℕ → List Test
pretest_tests D d = (not (draft_formed d) refuses 1) ∷ unpaid_tests D (draft_sheet d)

unfoldable pub pretesting : Dates → List ℕ → Answer
pretesting D d = answer_by (pretest_tests D d) (named_field D (draft_sheet d) ∷ broken_by_all D (draft_sheet d) ∷ [])

-- of a draft's sheet s, a budget payment, it names rule n with field f; d is the draft
pub record Names (D : Dates) (d s : List ℕ) (f n : ℕ) : Type 0 where
  pub before : List ℕ
  pub after : List ℕ
  pub listed : ahead ≡ before ++ (n ∷ after)
  -- every filling breaks it, and names its field
  pub broken : (g : List ℕ) → Filling D s g → (keeps D g n ≡ false) × (field_of rules n g ≡ f)
  -- every filling keeps those ahead of it, so that no earlier one is broken by all
  pub earlier : (g : List ℕ) → Filling D s g → every (keeps D g) before ≡ true
  -- "the search's answer is 10 with the count of all fillings"
  pub hopeless : (b : List ℕ) → length b ≡ sheet_size → dates_fit D ≡ true → (c : ℕ) × (completing D d b ≡ refusal 10 (c ∷ [])) × All D s c

-- the promise of `pretest`: it answered r of the draft d
pub record Pretests (D : Dates) (d : List ℕ) (r : Result (Option Named) Rejection) : Type 0 where
  pub answer : pretest_answer r ≡ pretesting D d
  -- "The test refuses with 1, 8 and 9 as completion does", into a buffer of the right size
  pub refused : (b : List ℕ) → length b ≡ sheet_size → dates_fit D ≡ true → (n : ℕ) (vs : List ℕ) → pretest_answer r ≡ refusal n vs → completing D d b ≡ refusal n vs
  -- and as it refuses, but for 10
  pub also_refused : (b : List ℕ) → length b ≡ sheet_size → dates_fit D ≡ true → (n : ℕ) (vs : List ℕ) → (n ≡ 10 → ⊥) → completing D d b ≡ refusal n vs → pretest_answer r ≡ refusal n vs
  -- a budget payment it does not refuse
  pub paid : draft_formed d ≡ true → budget_payment D (draft_sheet d) ≡ true → number_of (pretest_answer r) ≡ 0
  -- "It says none exactly when every filling keeps all of these"
  pub none :
      draft_formed d ≡ true
      → budget_payment D (draft_sheet d) ≡ true
      → (pretest_answer r ≡ success (0 ∷ 0 ∷ [])) ↔ ((g : List ℕ) → Filling D (draft_sheet d) g → every (keeps D g) ahead ≡ true)
  -- "where it names one"
  pub named : (f n : ℕ) → (n ≡ 0 → ⊥) → pretest_answer r ≡ success (f ∷ n ∷ []) → Names D d (draft_sheet d) f n
  -- a rule named is not 0: that there is none, it says with `None`
  pub numbered : (m : Named) → r ≡ Ok (Some m) → m.rule.0 ≡ 0 → ⊥
  -- each case by its constructor: a rule with its field, none, and what completion refuses with
  pub holds : (m : Named) → r ≡ Ok (Some m) → Names D d (draft_sheet d) m.field.0 m.rule.0
  pub unnamed : r ≡ Ok None → (g : List ℕ) → Filling D (draft_sheet d) g → every (keeps D g) ahead ≡ true
  pub broken : (f : Field) (n : RuleNumber) → r ≡ Err (Broken f n) → (b : List ℕ) → length b ≡ sheet_size → dates_fit D ≡ true → completing D d b ≡ refusal 8 (f.0 ∷ n.0 ∷ [])
  pub number : (n : Refusal) → r ≡ Err (Refused n) → (b : List ℕ) → length b ≡ sheet_size → dates_fit D ≡ true → completing D d b ≡ refusal (refusal_number n) []
