-- All rules that a sheet breaks, as a set of 64 bits, and what asking for them promises.
use Rattle.std.specs.Prelude.{◌≡◌, ◌↔◌, true, false, not, cond, List, [], ◌∷◌, ℕ, ◌+◌, ◌/◌, ◌%◌, ◌^◌, ◌<◌, eqb, Result, Ok, Err}
use Rattle.texts.specs.Refusals.{refusal_number}
use Rattle.texts.specs.Answers.{Answer, success, refusal, Test, ◌refuses◌, answer_by}
use Rattle.sheets.specs.Sheet.{well_formed, Sheet}
use Rattle.sheets.specs.Dates.{dates_fit}
use Rattle.sheets.specs.declared.dates.Dates.{Dates}
use Rattle.rules.specs.Rules.{Rule, rules, order, keeps, keeps_all, first_not, first_broken}
use Rattle.texts.specs.declared.answers.Refusal.{Refusal}
use Rattle.texts.specs.declared.answers.Refusal.TheVariants.{Malformed, Undated}

-- bit n for rule n: the sum of 2 ^ n over those of some rules that the sheet s breaks at the dates D
unfoldable pub bits_of : Dates → Sheet → List Rule → ℕ
bits_of D s [] = 0
bits_of D s (r ∷ rs) = cond (r.test D s) 0 (2 ^ r.number) + bits_of D s rs

unfoldable pub broken_set : Dates → Sheet → ℕ
broken_set D s = bits_of D s rules

-- bit n of a set
abbrev pub bit_of : ℕ → ℕ → ℕ
bit_of set n = set / 2 ^ n % 2

-- the same with no sum: the set of all rules that s breaks
pub record BrokenSet (D : Dates) (s : Sheet) (set : ℕ) : Type 0 where
  -- bit n is 1 exactly if s breaks rule n
  pub bit : (n : ℕ) → bit_of set n ≡ cond (keeps D s n) 0 1
  -- bits 1 to 35, and no other
  pub only : (set % 2 ≡ 0) × (set < 2 ^ 36)
  -- it is empty exactly if `check` accepts
  pub none : (set ≡ 0) ↔ (keeps_all D s ≡ true)
  -- the first in the order of testing whose bit is 1 is the one that `check` names
  pub first : first_not (λ (n : ℕ). eqb (bit_of set n) 0) order ≡ first_broken D s order

-- the paper's number and values for each case: the set; "draft or sheet malformed"; a date
unfoldable pub broken_answer : Result ℕ Refusal → Answer
broken_answer (Ok n) = success (n ∷ [])
broken_answer (Err n) = refusal (refusal_number n) []

-- as a check refuses: 1, then 12
unfoldable pub break_tests : Dates → Sheet → List Test
break_tests D s = (not (well_formed s) refuses 1) ∷ (not (dates_fit D) refuses 12) ∷ []

unfoldable pub breaking : Dates → Sheet → Answer
breaking D s = answer_by (break_tests D s) (broken_set D s ∷ [])

-- the promise of `broken_rules`
pub record BreaksRules (D : Dates) (s : Sheet) (r : Result ℕ Refusal) : Type 0 where
  pub answer : broken_answer r ≡ breaking D s
  pub set : well_formed s ≡ true → dates_fit D ≡ true → (n : ℕ) × (r ≡ Ok n) × BrokenSet D s n
  pub malformed : (r ≡ Err Malformed) ↔ (well_formed s ≡ false)
  pub undated : well_formed s ≡ true → (r ≡ Err Undated) ↔ (dates_fit D ≡ false)
